-- The numbers of a text are read back from the front of its input, and what follows the front is the table that the rest of the text assembles to.
use Rattle.std.specs.Prelude.{Err, None, Ok, Option, Result, Some}
use Rattle.inputs.specs.declared.Wanted.{Wanted}
use Prim.Native.Nat.{ℕ, suc, ◌+◌, ◌*◌, ◌/◌, ◌%◌, ◌≤◌}
use native.Mathlib.Omega.{arith}
use mathlib.Core.Path.{◌≡◌, refl, sym}
use mathlib.Core.List.{List, [], ◌∷◌, ◌++◌, append-nil, flatten}
use mathlib.Core.Bool.{Bool, true, false, ◌&&◌}
use borrow.Author.Tests.{leb-true, ltb-true}
use lib.Dec.{leb, ltb}
use lib.ListN.{length, get_or, take, drop, length-append}
use lib.Seq.{take_at, take-append_seam, drop-append_seam}
use Rattle.table.specs.Sum.{pick}
use Rattle.table.specs.Format.{u16_at, u24_at, u32_at}
use Rattle.assembly.specs.Words.{is_digit, zero_led, same, lines_of, words_of}
use Rattle.text.specs.Text.{ascii}
use Rattle.assembly.specs.Said.{saids}
use Rattle.assembly.specs.Assembly.{table_bytes, over, assembled, assembled_in}
use Rattle.assembly.specs.Upto.{next_value, value_from, number_in}
use Rattle.inputs.specs.Number.{figure_by, figure_of}
use Rattle.assembly.specs.Unseen.{after_lines}
use Rattle.inputs.specs.Front.{Front, nothing, workers, quota, between, turns, rounds, board, Step, goes, stops, ends, Order, listed, broken, max_order, most8, most24, most32, most64, added_by, added, onward_order, order_from, given_to, ordered_to, step_with, step_of, Fronted, whole, fault, at_end, onward, front_from, front_of}
use Rattle.inputs.specs.Input.{front_texts, input_bytes, made, made_in}
use Rattle.inputs.specs.declared.Wanted.TheVariants.{FewerWorkers}
use Rattle.std.specs.Prelude.{Ok}
use Rattle.inputs.proofs.Tables.{table_written}
use Rattle.inputs.proofs.Within.{makes, made_over}

-- ---- every number fits its field

abbrev NumberWithin : ℕ → Option ℕ → Type 0
NumberWithin most (Some x) = x ≤ most
NumberWithin most None = Unit {0}

value_within : (most v : ℕ) (w : List ℕ) → v ≤ most → NumberWithin most (value_from most v w)
unfolding value_from
value_within most v [] h = h
value_within most v (b ∷ w) h = go (is_digit b) (leb (next_value v b) most) refl (λ l. value_within most (next_value v b) w l)
  where
    go : (s t : Bool) → leb (next_value v b) most ≡ t → (next_value v b ≤ most → NumberWithin most (value_from most (next_value v b) w))
        → NumberWithin most (pick (s && t) (value_from most (next_value v b) w) None)
    go true true e r = r (leb-true (next_value v b) most e)
    go true false e r = tt
    go false t e r = tt

number_within : (most : ℕ) (w : List ℕ) → NumberWithin most (number_in most w)
unfolding number_in
number_within most w = go (zero_led w)
  where
    go : (t : Bool) → NumberWithin most (pick t None (value_from most 0 w))
    go true = tt
    go false = value_within most 0 w (omega arith)

abbrev FigureWithin : ℕ → Result ℕ Wanted → Type 0
FigureWithin most (Ok x) = x ≤ most
FigureWithin most (Err e) = Unit {0}

figure_within : (most : ℕ) (ws : List (List ℕ)) → FigureWithin most (figure_of most ws)
unfolding figure_of
figure_within most [] = tt
figure_within most (w ∷ ws) = go (number_in most w) ws (number_within most w)
  where
    go : (x : Option ℕ) (ws : List (List ℕ)) → NumberWithin most x → FigureWithin most (figure_by most x ws)
    go (Some x) [] h = h
    go (Some x) (u ∷ us) h = tt
    go None us h = tt

abbrev OrderWithin : Order → Type 0
OrderWithin (listed o) = length o ≤ max_order
OrderWithin (broken e) = Unit {0}

added_within : (o w : List ℕ) → OrderWithin (added o w)
unfolding added
added_within o w = go (ltb (length o) max_order) (number_in most8 w) refl
  where
    go : (t : Bool) (x : Option ℕ) → ltb (length o) max_order ≡ t → OrderWithin (pick t (added_by x o) (broken FewerWorkers))
    go true (Some x) e = omega (arith, ltb-true (length o) max_order e, length-append o (x ∷ []))
    go true None e = tt
    go false x e = tt

order_within : (ws : List (List ℕ)) (o : List ℕ) → length o ≤ max_order → OrderWithin (order_from o ws)
unfolding order_from
order_within [] o h = h
order_within (w ∷ ws) o h = go (added o w) (added_within o w) (λ o' l. order_within ws o' l)
  where
    go : (x : Order) → OrderWithin x → ((o' : List ℕ) → length o' ≤ max_order → OrderWithin (order_from o' ws)) → OrderWithin (onward_order x (λ (o : List ℕ). order_from o ws))
    go (listed o') l r = r o' l
    go (broken e) l r = tt

-- what the lines have given fits its bytes
abbrev pub InRange : Front → Type 0
InRange nothing = Unit {0}
InRange (workers p) = p ≤ most8
InRange (quota p K) = (p ≤ most8) × (K ≤ most24)
InRange (between p b) = (p ≤ most8) × (b ≤ most32)
InRange (turns p K o) = (p ≤ most8) × ((K ≤ most24) × (length o ≤ max_order))
InRange (rounds p K L) = (p ≤ most8) × ((K ≤ most24) × (L ≤ most32))
InRange (board p b M) = (p ≤ most8) × ((b ≤ most32) × (M ≤ most64))

abbrev StepWithin : Step → Type 0
StepWithin (goes f) = InRange f
StepWithin (stops e) = Unit {0}
StepWithin (ends f) = InRange f

either : (t : Bool) (a b : Step) → StepWithin a → StepWithin b → StepWithin (pick t a b)
either true a b x y = x
either false a b x y = y

given_within : (f : ℕ → Front) (most : ℕ) (x : Result ℕ Wanted) → FigureWithin most x → ((x : ℕ) → x ≤ most → InRange (f x)) → StepWithin (given_to f x)
given_within f most (Ok x) h g = g x h
given_within f most (Err e) h g = tt

ordered_within : (p K : ℕ) (x : Order) → OrderWithin x → p ≤ most8 → K ≤ most24 → StepWithin (ordered_to p K x)
ordered_within p K (listed o) h a b = (a, (b, h))
ordered_within p K (broken e) h a b = tt

word_within : (f : Front) (w : List ℕ) (ws : List (List ℕ)) → InRange f → StepWithin (step_with f w ws)
unfolding step_with
word_within nothing w ws h = either (same w (ascii "workers")) _ _ (given_within workers most8 (figure_of most8 ws) (figure_within most8 ws) (λ x l. l)) tt
word_within (workers p) w ws h =
    either (same w (ascii "quota")) _ _ (given_within (quota p) most24 (figure_of most24 ws) (figure_within most24 ws) (λ x l. (h, l)))
    (either (same w (ascii "between")) _ _ (given_within (between p) most32 (figure_of most32 ws) (figure_within most32 ws) (λ x l. (h, l))) tt)
word_within (quota p K) w ws h =
    either (same w (ascii "order")) _ _ (ordered_within p K (order_from [] ws) (order_within ws [] (omega arith)) h.0 h.1)
    (either (same w (ascii "limit")) _ _ (given_within (rounds p K) most32 (figure_of most32 ws) (figure_within most32 ws) (λ x l. (h.0, (h.1, l)))) tt)
word_within (between p b) w ws h = either (same w (ascii "memory")) _ _ (given_within (board p b) most64 (figure_of most64 ws) (figure_within most64 ws) (λ x l. (h.0, (h.1, l)))) tt
word_within (turns p K o) w ws h = either (same w (ascii "order")) _ _ (ordered_within p K (order_from o ws) (order_within ws o h.1.1) h.0 h.1.0) h
word_within (rounds p K L) w ws h = h
word_within (board p b M) w ws h = h

step_within : (f : Front) (ws : List (List ℕ)) → InRange f → StepWithin (step_of f ws)
step_within f [] h = h
step_within f (w ∷ ws) h = word_within f w ws h

abbrev FrontWithin : Fronted → Type 0
FrontWithin (whole f k) = InRange f
FrontWithin (fault line e) = Unit {0}

end_within : (f : Front) (k : ℕ) → InRange f → FrontWithin (at_end f k)
end_within nothing k h = tt
end_within (workers p) k h = tt
end_within (quota p K) k h = tt
end_within (between p b) k h = tt
end_within (turns p K o) k h = h
end_within (rounds p K L) k h = h
end_within (board p b M) k h = h

front_within : (ls : List (List ℕ)) (f : Front) (k : ℕ) → InRange f → FrontWithin (front_from f k ls)
unfolding front_from
front_within [] f k h = end_within f k h
front_within (l ∷ ls) f k h = go (step_of f (words_of l)) (step_within f (words_of l) h) (λ g r. front_within ls g (suc k) r)
  where
    go : (s : Step) → StepWithin s → ((g : Front) → InRange g → FrontWithin (front_from g (suc k) ls)) → FrontWithin (onward s k (λ (g : Front). front_from g (suc k) ls))
    go (goes g) r next = next g r
    go (stops e) r next = tt
    go (ends g) r next = r

pub in_range : (s : List ℕ) (f : Front) (k : ℕ) → front_of s ≡ whole f k → InRange f
in_range s f k e = rw e at (front_within (lines_of s) nothing 0 tt)

-- ---- read back

-- what `turnlist` and `wallchart` read, each number at the place where they look for it
pub record TurnsBack (i : List ℕ) (p K : ℕ) (o t : List ℕ) : Type 0 where
  pub workers_back : get_or i 0 0 ≡ p
  pub quota_back : u24_at i 1 ≡ K
  pub order_back : take (u16_at i 4) (drop 6 i) ≡ o
  pub table_back : drop (6 + u16_at i 4) i ≡ t

-- what `runrounds` reads
pub record RoundsBack (i : List ℕ) (p K L : ℕ) (t : List ℕ) : Type 0 where
  pub workers_back : get_or i 0 0 ≡ p
  pub quota_back : u24_at i 1 ≡ K
  pub limit_back : u16_at i 4 + 65536 * u16_at i 6 ≡ L
  pub table_back : drop 8 i ≡ t

-- what `maxquota` reads
pub record BoardBack (i : List ℕ) (p b M : ℕ) (t : List ℕ) : Type 0 where
  pub workers_back : get_or i 0 0 ≡ p
  pub between_back : u32_at i 1 ≡ b
  pub memory_back : u32_at i 5 + 4294967296 * u32_at i 9 ≡ M
  pub table_back : drop 13 i ≡ t

-- a text of a table, and the bytes that are put for it
pub record TableBack (s : List ℕ) : Type 0 where
  pub size : ℕ
  pub written : assembled s ≡ Ok size
  pub bytes : (out : List ℕ) → take size (assembled_in s out) ≡ table_bytes (saids s)

-- a number by its bytes, a pair of bytes at a time
pair_bytes : (x : ℕ) → x % 256 + 256 * (x / 256 % 256) ≡ x % 65536
pair_bytes x = omega arith

quad_bytes : (x : ℕ) → x % 256 + 256 * (x / 256 % 256) + 65536 * (x / 65536 % 256) + 16777216 * (x / 16777216 % 256) ≡ x % 4294967296
quad_bytes x =
    let d : x / 65536 / 256 ≡ x / 16777216 = omega arith in
    let a : x / 65536 % 256 + 256 * (x / 16777216 % 256) ≡ x / 65536 % 65536 = rw (← d) (pair_bytes (x / 65536)) in
    let b : x % 65536 + 65536 * (x / 65536 % 65536) ≡ x % 4294967296 = omega arith in
    omega (arith, pair_bytes x, a, b)

upper_bytes : (x : ℕ)
    → x / 4294967296 % 256 + 256 * (x / 1099511627776 % 256) + 65536 * (x / 281474976710656 % 256) + 16777216 * (x / 72057594037927936 % 256) ≡ x / 4294967296 % 4294967296
upper_bytes x =
    let a : x / 4294967296 / 256 ≡ x / 1099511627776 = omega arith in
    let b : x / 4294967296 / 65536 ≡ x / 281474976710656 = omega arith in
    let c : x / 4294967296 / 16777216 ≡ x / 72057594037927936 = omega arith in
    rw (← a, ← b, ← c) (quad_bytes (x / 4294967296))

-- ---- the bytes of a front

module _ (t : List ℕ) where
  turns_bytes : (p K : ℕ) (o : List ℕ) → InRange (turns p K o) → TurnsBack (flatten (front_texts (turns p K o)) ++ t) p K o t
  unfolding front_texts flatten
  turns_bytes p K o h =
      let n : length o % 256 + 256 * (length o / 256 % 256) ≡ length o = omega (arith, h.1.1) in
      let e : (o ++ []) ++ t ≡ o ++ t = rw (append-nil o) in
      let k : 6 + length o ≡ suc (suc (suc (suc (suc (suc (length o)))))) = omega arith in
      record {
        workers_back = omega (arith, h.0);
        quota_back = omega (arith, h.1.0);
        order_back = rw (n, e) (take-append_seam o t);
        table_back = rw (n, e, k) (drop-append_seam o t);
      }

  rounds_bytes : (p K L : ℕ) → InRange (rounds p K L) → RoundsBack (flatten (front_texts (rounds p K L)) ++ t) p K L t
  unfolding front_texts flatten
  rounds_bytes p K L h =
      record {
        workers_back = omega (arith, h.0);
        quota_back = omega (arith, h.1.0);
        limit_back = omega (arith, quad_bytes L, h.1.1);
        table_back = refl;
      }

  board_bytes : (p b M : ℕ) → InRange (board p b M) → BoardBack (flatten (front_texts (board p b M)) ++ t) p b M t
  unfolding front_texts flatten
  board_bytes p b M h =
      record {
        workers_back = omega (arith, h.0);
        between_back = omega (arith, quad_bytes b, h.1.0);
        memory_back = omega (arith, quad_bytes M, upper_bytes M, h.1.1);
        table_back = refl;
      }

-- ---- the theorems: a text with an input of k bytes, which stands in a lent buffer

module _ (s out : List ℕ) (k : ℕ) (q : made s ≡ Ok k) where
  -- the input as it stands there
  abbrev input : List ℕ
  input = take k (made_in s out)

  input_is : (f : Front) (n : ℕ) → front_of s ≡ whole f n → input ≡ input_bytes f (after_lines n s)
  input_is f n e =
      let m = makes s k q in
      let a : m.front ≡ f = cc in
      let b : m.lines ≡ n = cc in
      let w : k ≡ length (input_bytes f (after_lines n s)) = rw (← a, ← b) m.long in
      let z : made_in s out ≡ over (input_bytes f (after_lines n s)) out = rw (← a, ← b) (made_over s out k m) in
      rw z (take_at (input_bytes f (after_lines n s)) (drop (length (input_bytes f (after_lines n s))) out) k (sym w))

  pub turns_back : (p K : ℕ) (o : List ℕ) (n : ℕ) → front_of s ≡ whole (turns p K o) n → TurnsBack input p K o (table_bytes (saids (after_lines n s)))
  turns_back p K o n e = rw (input_is (turns p K o) n e) (turns_bytes (table_bytes (saids (after_lines n s))) p K o (in_range s (turns p K o) n e))

  pub rounds_back : (p K L n : ℕ) → front_of s ≡ whole (rounds p K L) n → RoundsBack input p K L (table_bytes (saids (after_lines n s)))
  rounds_back p K L n e = rw (input_is (rounds p K L) n e) (rounds_bytes (table_bytes (saids (after_lines n s))) p K L (in_range s (rounds p K L) n e))

  pub board_back : (p b M n : ℕ) → front_of s ≡ whole (board p b M) n → BoardBack input p b M (table_bytes (saids (after_lines n s)))
  board_back p b M n e = rw (input_is (board p b M) n e) (board_bytes (table_bytes (saids (after_lines n s))) p b M (in_range s (board p b M) n e))

  -- those bytes of the table are what `assembly::assemble` puts, of the text after the front's lines
  pub table_back : (f : Front) (n : ℕ) → front_of s ≡ whole f n → TableBack (after_lines n s)
  table_back f n e =
      let m = makes s k q in
      let b : m.lines ≡ n = cc in
      let w : assembled (after_lines n s) ≡ Ok m.size = rw (← b) m.tabled in
      record { size = m.size; written = w; bytes = λ o. table_written (after_lines n s) o (assembled_in (after_lines n s) o) m.size w refl }
