-- Every line has 84 characters and a newline, and each shown number is read back from it.
use Prim.Native.Nat.{ℕ, ◌+◌, ◌*◌, ◌%◌, ◌^◌, ◌<◌}
use native.Mathlib.Omega.{arith}
use mathlib.Core.Path.{◌≡◌, refl, sym, ap, ◌∙◌}
use mathlib.Core.List.{List, [], ◌∷◌, ◌++◌, append_assoc, flatten}
use borrow.Author.Tests.{ne_eqb}
use lib.ListN.{length, get_or, take, drop, length-append}
use lib.Seq.{take_at, drop_at, drop-drop, get_or_at}
use Rattle.text.specs.Text.{newline}
use Rattle.text.proofs.Putting.{flatten_append}
use Rattle.chart.specs.Chart.{Cell, thread, none, absent, Figures, right_texts, cell_texts, cells_texts, line_texts, line_text, cell_in, cells_in, read_back}
use Rattle.chart.specs.Chart.{number_in}
use Rattle.chart.proofs.Columns.{right, right_text, right_length, number_right, right_last}

-- ---- what fits its columns

abbrev pub CellFits : Cell → Type 0
CellFits (thread t) = t < 10 ^ 4
CellFits none = Unit {0}
CellFits absent = Unit {0}

abbrev pub CellsFit : List Cell → Type 0
CellsFit [] = Unit {0}
CellsFit (c ∷ cs) = CellFits c × CellsFit cs

pub record Fits (x : Figures) : Type 0 where
  pub turns : x.turns < 10 ^ 6
  pub sixteen : length x.cells ≡ 16
  pub cells : CellsFit x.cells
  pub held : x.held < 10 ^ 14

-- ---- a cell

abbrev cell_text : Cell → List ℕ
cell_text c = flatten (cell_texts c)

cell_length : (c : Cell) → CellFits c → length (cell_text c) ≡ 4
unfolding cell_texts flatten
cell_length (thread t) h = ap length (right_text 4 t) ∙ right_length 3 t h
cell_length none h = refl
cell_length absent h = refl

cell_read : (c : Cell) → CellFits c → cell_in (cell_text c) ≡ c
unfolding cell_texts flatten cell_in
cell_read (thread t) h =
    let l = right_last 3 t h in
    rw (right_text 4 t, l, ne_eqb (48 + t % 10) 32 (λ e. omega (arith, e)), ne_eqb (48 + t % 10) 46 (λ e. omega (arith, e))) (ap thread (number_right 3 4 t h))
cell_read none h = refl
cell_read absent h = refl

abbrev cells_text : List Cell → List ℕ
cells_text cs = flatten (cells_texts cs)

cells_cons : (c : Cell) (cs : List Cell) → cells_text (c ∷ cs) ≡ cell_text c ++ cells_text cs
unfolding cells_texts
cells_cons c cs = flatten_append (cell_texts c) (cells_texts cs)

cells_length : (cs : List Cell) → CellsFit cs → length (cells_text cs) ≡ 4 * length cs
unfolding cells_texts flatten
cells_length [] h = refl
cells_length (c ∷ cs) h =
    ap length (cells_cons c cs) ∙ length-append (cell_text c) (cells_text cs) ∙ omega (arith, cell_length c h.0, cells_length cs h.1)

cells_read : (cs : List Cell) (rest : List ℕ) → CellsFit cs → cells_in (length cs) (cells_text cs ++ rest) ≡ cs
unfolding cells_in
cells_read [] rest h = refl
cells_read (c ∷ cs) rest h =
    let e : cells_text (c ∷ cs) ++ rest ≡ cell_text c ++ (cells_text cs ++ rest) = ap (λ (l : List ℕ). l ++ rest) (cells_cons c cs) ∙ append_assoc (cell_text c) (cells_text cs) rest in
    let four : length (cell_text c) ≡ 4 = cell_length c h.0 in
    rw (e, take_at (cell_text c) (cells_text cs ++ rest) 4 four, drop_at (cell_text c) (cells_text cs ++ rest) 4 four, cell_read c h.0, cells_read cs rest h.1)

-- ---- a line

pub line_text_lem : (x : Figures) → line_text x ≡ right 6 x.turns ++ (cells_text x.cells ++ (right 14 x.held ++ newline))
unfolding line_texts flatten
line_text_lem x =
    flatten_append (right_texts 6 x.turns) (cells_texts x.cells ++ (right_texts 14 x.held ++ (newline ∷ [])))
    ∙ (λ i. right_text 6 x.turns i ++ flatten_append (cells_texts x.cells) (right_texts 14 x.held ++ (newline ∷ [])) i)
    ∙ ap (λ (l : List ℕ). right 6 x.turns ++ (cells_text x.cells ++ l)) (flatten_append (right_texts 14 x.held) (newline ∷ []) ∙ ap (λ (l : List ℕ). l ++ newline) (right_text 14 x.held))

module _ (x : Figures) (f : Fits x) where
  six : length (right 6 x.turns) ≡ 6
  six = right_length 5 x.turns f.turns

  sixty_four : length (cells_text x.cells) ≡ 64
  sixty_four = omega (arith, cells_length x.cells f.cells, f.sixteen)

  fourteen : length (right 14 x.held) ≡ 14
  fourteen = right_length 13 x.held f.held

  -- "Every line has exactly that width"
  pub line_width : length (line_text x) ≡ 85
  line_width =
      ap length (line_text_lem x)
      ∙ omega (
        arith,
        six,
        sixty_four,
        fourteen,
        length-append (right 6 x.turns) (cells_text x.cells ++ (right 14 x.held ++ newline)),
        length-append (cells_text x.cells) (right 14 x.held ++ newline),
        length-append (right 14 x.held) newline,
      )

  -- ".. and a newline"
  pub line_newline : get_or (line_text x) 84 0 ≡ 10
  line_newline =
      let front : List ℕ = right 6 x.turns ++ (cells_text x.cells ++ right 14 x.held) in
      let n : length front ≡ 84 =
      omega (arith, six, sixty_four, fourteen, length-append (right 6 x.turns) (cells_text x.cells ++ right 14 x.held), length-append (cells_text x.cells) (right 14 x.held)) in
      let e : line_text x ≡ front ++ newline = line_text_lem x ∙ simp append_assoc in
      rw e (get_or_at front 10 [] 0 84 n)

  -- "from a line each shown number can be read back"
  pub line_read : read_back (line_text x) ≡ x
  unfolding read_back
  line_read =
      let last : List ℕ = right 14 x.held ++ newline in
      let body : List ℕ = cells_text x.cells ++ last in
      let t : take 6 (line_text x) ≡ right 6 x.turns = ap (take 6) (line_text_lem x) ∙ take_at (right 6 x.turns) body 6 six in
      let d : drop 6 (line_text x) ≡ body = ap (drop 6) (line_text_lem x) ∙ drop_at (right 6 x.turns) body 6 six in
      let e : drop 70 (line_text x) ≡ last = sym (drop-drop 64 6 (line_text x)) ∙ ap (drop 64) d ∙ drop_at (cells_text x.cells) last 64 sixty_four in
      let h : take 14 (drop 70 (line_text x)) ≡ right 14 x.held = ap (take 14) e ∙ take_at (right 14 x.held) newline 14 fourteen in
      let a : number_in (take 6 (line_text x)) ≡ x.turns = ap number_in t ∙ number_right 5 6 x.turns f.turns in
      let b : cells_in 16 (drop 6 (line_text x)) ≡ x.cells = ap (cells_in 16) d ∙ ap (λ (k : ℕ). cells_in k body) (sym f.sixteen) ∙ cells_read x.cells last f.cells in
      let c : number_in (take 14 (drop 70 (line_text x))) ≡ x.held = ap number_in h ∙ number_right 13 14 x.held f.held in
      (λ i. record { turns = a i; cells = b i; held = c i })
