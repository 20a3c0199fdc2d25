-- The executable tests are the records: `sound` is true exactly of the sound records, `is_blank` exactly of the blank one.
use mathlib.Core.Path.{◌≡◌, refl, sym, ap, ◌∙◌}
use mathlib.Core.Logic.Iff
use mathlib.Core.Logic.{◌↔◌, ◌⊎◌, inl, inr}
use mathlib.Core.Bool.{Bool, true, false, ◌||◌}
use mathlib.Core.List.{List}
use Rattle.table.specs.Format.{Table}
use Prim.Native.Nat.{ℕ, ◌≤◌, ◌<◌}
use native.Mathlib.Omega.{arith}
use lib.ListN.{length, get_or, replicate, length-replicate, get_or-replicate}
use lib.Seq.{ext_get_or}
use lib.Dec.{ltb, eqb}
use borrow.Author.Tests.{ltb-true, ltb-false, eqb-true, eq-eqb}
use Rattle.table.specs.Pass.{first_found}
use Rattle.table.specs.Checks.{passes}
use Rattle.table.proofs.Passes.{passes_rules}
use Rattle.schedule.specs.declared.Worker.{Worker}
use Rattle.schedule.specs.declared.Run.{Run}
use Rattle.schedule.specs.Machine.{nobody}
use Rattle.schedule.specs.Links.{Links}
use Rattle.schedule.specs.Record.{blank, bytes_of}
use Rattle.schedule.specs.Sound.{next_in_body, in_order, status_follows, list_follows, waits_at_join, one_holder, worker_right, unused, shares_in}
use Rattle.order.specs.Words.{all_below}
use Rattle.schedule.specs.Sound.{Common, Listed, Sound, common, listed, common_sound, same_links, sound}
use Rattle.schedule.specs.Turn.{is_nobody, is_blank}
use Rattle.order.proofs.Words.{and_of, or_exactly, eqb_exactly, leb_exactly, ltb_exactly, all_below_exactly, same_list_exactly, is_nothing_exactly}
use Rattle.schedule.proofs.Sound.Clauses.{nobody_exactly}

pair : {A B : Type 0} → A → B → A × B
pair a b = (a, b)

-- ---- a sound state

-- the threads from n on
unused_from :
    (n : ℕ) (next status : List ℕ) (k : ℕ) → (all_below (λ t. ltb t n || unused next status t) k ≡ true) ↔ ((t : ℕ) → n ≤ t → t < k → unused next status t ≡ true)
unused_from n next status k =
    Iff.trans (all_below_exactly (λ t. ltb t n || unused next status t) k) (
      (λ h t m l. above t m ((or_exactly (ltb t n) (unused next status t)).0 (h t l))),
      (λ h t l. (or_exactly (ltb t n) (unused next status t)).1 (by_place t (λ m. h t m l) (ltb t n) refl)),
    )
  where
    above : (t : ℕ) → n ≤ t → (ltb t n ≡ true) ⊎ (unused next status t ≡ true) → unused next status t ≡ true
    above t m (inl e) = absurd (omega (arith, ltb-true t n e))
    above t m (inr e) = e

    by_place : (t : ℕ) → (n ≤ t → unused next status t ≡ true) → (s : Bool) → ltb t n ≡ s → (ltb t n ≡ true) ⊎ (unused next status t ≡ true)
    by_place t h true e = inl e
    by_place t h false e = inr (h (ltb-false t n e))

pub common_exactly : (T : Table) (p K : ℕ) (next status amounts : List ℕ) (workers : List Worker) (amount highest : ℕ)
    → (common T p K next status amounts workers amount highest ≡ true) ↔ Common T p K next status amounts workers amount highest
unfolding common
common_exactly T p K next status amounts workers amount highest =
    Iff.trans
    (and_of (eqb_exactly (length next) 1024)
    (and_of (eqb_exactly (length status) 1024)
    (and_of (eqb_exactly (length workers) 16)
    (and_of (all_below_exactly (next_in_body T next) T.threads)
    (and_of (all_below_exactly (in_order T next status) T.actions)
    (and_of (all_below_exactly (status_follows T next status) T.threads)
    (and_of (all_below_exactly (waits_at_join T next status) T.threads)
    (and_of (unused_from T.threads next status 1024)
    (and_of (all_below_exactly (one_holder status workers) T.threads)
    (and_of (all_below_exactly (worker_right T.threads p K workers) 16)
    (and_of Iff.rfl
    (and_of (same_list_exactly amounts (shares_in T next status))
    (leb_exactly amount highest))))))))))))) (
      (λ (a, (b, (c, (d, (e, (f, (g, (h, (i, (j, (k, (m, l)))))))))))).
          record {
            next_size = a;
            status_size = b;
            worker_size = c;
            placed = d;
            ordered = e;
            statuses = f;
            waits = g;
            unused_threads = h;
            holders = i;
            worker_each = j;
            held_right_lem = k;
            shares = m;
            above = l;
          }),
      (λ s.
          pair s.next_size (pair s.status_size (pair s.worker_size (pair s.placed (pair s.ordered
          (pair s.statuses (pair s.waits (pair s.unused_threads (pair s.holders (pair s.worker_each
          (pair s.held_right_lem (pair s.shares s.above)))))))))))),
    )

pub listed_exactly : (T : Table) (next status list : List ℕ) → (listed T next status list ≡ true) ↔ Listed T next status list
unfolding listed
listed_exactly T next status list =
    Iff.trans (and_of (all_below_exactly (list_follows status list) T.threads) (and_of Iff.rfl Iff.rfl)) (
      (λ (a, (b, c)). record { follows = a; threads_alone = b; serial = c }),
      (λ s. pair s.follows (pair s.threads_alone s.serial)),
    )

-- ---- a sound record

pub same_links_exactly : (k l : Links) → (same_links k l ≡ true) ↔ (k ≡ l)
unfolding same_links
same_links_exactly k l =
    Iff.trans (and_of (same_list_exactly k.left l.left) (and_of (same_list_exactly k.right l.right) (eqb_exactly k.head l.head))) (
      (λ (a, (b, c)). λ x. record { left = a x; right = b x; head = c x }),
      (λ e. (ap (λ (x : Links). x.left) e, (ap (λ (x : Links). x.right) e, ap (λ (x : Links). x.head) e))),
    )

pub sound_exactly : (r : Run) → (sound r ≡ true) ↔ Sound r
unfolding sound common_sound
sound_exactly r =
    Iff.trans
    (and_of
    (and_of (Iff.trans (is_nothing_exactly (first_found (passes (bytes_of r)))) (passes_rules (bytes_of r)))
    (and_of (is_nothing_exactly _) (and_of (common_exactly _ _ _ _ _ _ _ _ _) (eqb_exactly _ _))))
    (and_of (listed_exactly _ _ _ _)
    (and_of (eqb_exactly _ _)
    (and_of (same_list_exactly _ _)
    (and_of (same_links_exactly _ _)
    (ltb_exactly _ _)))))) (
      (λ ((a, (b, (c, d))), (l, (i, (e, (f, g))))).
          record {
            steady =
                record {
                  table = a;
                  settings = b;
                  state = record { common = c; listed = l };
                  set = d;
                  table_length = i;
                  table_rest = e;
                  links = f;
                };
            turns = g;
          }),
      (λ s.
          let x = s.steady in
          ((x.table, (x.settings, (x.state.common, x.set))), (x.state.listed, (x.table_length, (x.table_rest, (x.links, s.turns)))))),
    )

-- ---- the blank record

-- the numbers of a record that are 0 in the blank one
record Zeros (r : Run) : Type 0 where
  length : r.length ≡ 0
  workers : r.workers ≡ 0
  quota : r.quota ≡ 0
  leftmost : r.leftmost ≡ 0
  busy : r.busy ≡ 0
  held : r.held ≡ 0
  highest : r.highest ≡ 0
  turns : r.turns ≡ 0

blank_zeros : Zeros blank
unfolding blank
blank_zeros = record { length = refl; workers = refl; quota = refl; leftmost = refl; busy = refl; held = refl; highest = refl; turns = refl }

blank_workers : blank.worker ≡ replicate 16 nobody
unfolding blank
blank_workers = refl

-- sixteen workers holding nothing
workers_exactly : (l : List Worker) → ((length l ≡ 16) × ((w : ℕ) → w < 16 → is_nobody (get_or l w nobody) ≡ true)) ↔ (l ≡ blank.worker)
workers_exactly l = (
  (λ h.
      ext_get_or nobody l (replicate 16 nobody) (h.0 ∙ sym (length-replicate 16 nobody))
      (λ i k. let m : i < 16 = omega (arith, h.0) in (nobody_exactly _).0 (h.1 i m) ∙ sym (get_or-replicate 16 i nobody nobody m))
      ∙ sym blank_workers),
  (λ e.
      let d : l ≡ replicate 16 nobody = e ∙ blank_workers in
      rw d (length-replicate 16 nobody, (λ w h. (nobody_exactly _).1 (get_or-replicate 16 w nobody nobody h)))),
)

zero_of : (x y : ℕ) → y ≡ 0 → (eqb x 0 ≡ true) ↔ (x ≡ y)
zero_of x y z = ((λ e. eqb-true x 0 e ∙ sym z), (λ e. eq-eqb x 0 (e ∙ z)))

pub blank_exactly : (r : Run) → (is_blank r ≡ true) ↔ (r ≡ blank)
unfolding is_blank
blank_exactly r =
    Iff.trans
    (and_of (same_list_exactly r.table blank.table)
    (and_of (zero_of r.length blank.length blank_zeros.length)
    (and_of (zero_of r.workers blank.workers blank_zeros.workers)
    (and_of (zero_of r.quota blank.quota blank_zeros.quota)
    (and_of (same_list_exactly r.next blank.next)
    (and_of (same_list_exactly r.status blank.status)
    (and_of (same_list_exactly r.amounts blank.amounts)
    (and_of (same_list_exactly r.left blank.left)
    (and_of (same_list_exactly r.right blank.right)
    (and_of (zero_of r.leftmost blank.leftmost blank_zeros.leftmost)
    (and_of (eqb_exactly (length r.worker) 16)
    (and_of (all_below_exactly (λ w. is_nobody (get_or r.worker w nobody)) 16)
    (and_of (zero_of r.busy blank.busy blank_zeros.busy)
    (and_of (zero_of r.held blank.held blank_zeros.held)
    (and_of (zero_of r.highest blank.highest blank_zeros.highest)
    (zero_of r.turns blank.turns blank_zeros.turns)))))))))))))))) (
      (λ (a, (b, (c, (d, (e, (f, (q, (g, (y, (h, (i, (j, (k, (l, (m, n))))))))))))))).
          let o : r.worker ≡ blank.worker = (workers_exactly r.worker).0 (i, j) in
          λ x.
          record {
            table = a x;
            length = b x;
            workers = c x;
            quota = d x;
            next = e x;
            status = f x;
            amounts = q x;
            left = g x;
            right = y x;
            leftmost = h x;
            worker = o x;
            busy = k x;
            held = l x;
            highest = m x;
            turns = n x;
          }),
      (λ e.
          let o : (length r.worker ≡ 16) × ((w : ℕ) → w < 16 → is_nobody (get_or r.worker w nobody) ≡ true) = (workers_exactly r.worker).1 cc in
          (cc, (cc, (cc, (cc, (cc, (cc, (cc, (cc, (cc, (cc, (o.0, (o.1, (cc, (cc, (cc, cc)))))))))))))))),
    )
