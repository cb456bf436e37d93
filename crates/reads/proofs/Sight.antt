-- What a read gives, where it lies on the track: all that is named was readable.
use Prim.Native.Nat.{ℕ, suc, ◌+◌, ◌*◌, ◌/◌, ◌%◌, ◌<◌, ◌≤◌}
use mathlib.Core.Path.{◌≡◌, refl, sym, ap, ◌∙◌}
use mathlib.Core.Bool.{Bool, true, false}
use mathlib.Core.List.{List, [], ◌∷◌, ◌++◌}
use native.Mathlib.Omega.{arith}
use native.Mathlib.Nat.{add_assoc}
use lib.ListN.{length, get_or, length-append}
use Rattle.cells.specs.Cells.{pick, part, byte_of, bytes_of}
use Rattle.cells.proofs.Laws.{part-cons}
use Rattle.areas.specs.declared.{Counts.Counts}
use Rattle.areas.specs.Areas.{counts_at, counts_by}
use Rattle.areas.proofs.Laws.{counts_are}
use Rattle.pack.specs.declared.{Head.Head}
use Rattle.command.specs.Command.{Seen, id_of, count_moved, gets, seen_of, areas_of, areas_read, sight, Sighted, end_turn_at, end_turn, ending_of, offered, read_turn}
use Rattle.command.proofs.Seen.{count-lies, record_counts, record_key, record_body, key_lies, body_lies, home_seen, home_lies}
use Rattle.table.specs.declared.{Names.Names}
use Rattle.turn.specs.declared.{Transfer.Transfer}
use Rattle.turn.specs.Turn.{Tracks, given, transfer_of, filled, report_of}
use Rattle.command.specs.declared.{Job.Job}
use Rattle.ending.specs.Ending.{report_at}
use Rattle.reads.specs.declared.{Filling.Filling}
use Rattle.reads.specs.Inside.{LieIf, LieAll, Puts, start, count_given, key_given, body_given, parts, bytes_given, many_given}
use Rattle.reads.proofs.Laws.{long, all_put, none_put}
use Rattle.std.specs.Prelude.{Ok}

-- ---- a count's 8 bytes are those of its cells but the flag's

module _ (t : List ℕ) (c : ℕ) (h : c + 11 ≤ length t) where
  abbrev b : ℕ → ℕ
  b i = byte_of (get_or t (c + i) 0)

  pair : ℕ → ℕ
  pair i = b i * 256 + b (i + 1)

  high : (i : ℕ) → pair i / 256 ≡ b i
  unfolding pair
  high i = omega arith

  low : (i : ℕ) → pair i % 256 ≡ b (i + 1)
  unfolding pair
  low i = omega arith

  cell_next : (i n : ℕ) → i < 11 → bytes_of (part t (c + i) (suc n)) ≡ b i ∷ bytes_of (part t (c + (i + 1)) n)
  unfolding bytes_of
  cell_next i n q =
      let e : suc (c + i) ≡ c + (i + 1) = omega arith in
      ap bytes_of (part-cons t (c + i) n (omega arith)) ∙ ap (λ (k : ℕ). b i ∷ bytes_of (part t k n)) e

  cells_sent : bytes_of (part t (c + 1) 8) ≡ b 1 ∷ b 2 ∷ b 3 ∷ b 4 ∷ b 5 ∷ b 6 ∷ b 7 ∷ b 8 ∷ []
  unfolding bytes_of part
  cells_sent =
      cell_next 1 7 (omega arith) ∙ ap (λ (l : List ℕ). b 1 ∷ l)
      (cell_next 2 6 (omega arith) ∙ ap (λ (l : List ℕ). b 2 ∷ l)
      (cell_next 3 5 (omega arith) ∙ ap (λ (l : List ℕ). b 3 ∷ l)
      (cell_next 4 4 (omega arith) ∙ ap (λ (l : List ℕ). b 4 ∷ l)
      (cell_next 5 3 (omega arith) ∙ ap (λ (l : List ℕ). b 5 ∷ l)
      (cell_next 6 2 (omega arith) ∙ ap (λ (l : List ℕ). b 6 ∷ l)
      (cell_next 7 1 (omega arith) ∙ ap (λ (l : List ℕ). b 7 ∷ l)
      (cell_next 8 0 (omega arith))))))))

  next : (i : ℕ) → byte_of (get_or t (c + 1 + i) 0) ≡ b (1 + i)
  next i = ap (λ (k : ℕ). byte_of (get_or t k 0)) (add_assoc c 1 i)

  counts_said : counts_at t c ≡ counts_by (byte_of (get_or t c 0)) (λ i. b (1 + i))
  counts_said = sym (counts_are t c c (byte_of (get_or t c 0)) _ refl refl refl) ∙ (λ j. counts_by (byte_of (get_or t c 0)) (λ i. next i j))

  sent_at_lem : count_moved (counts_at t c) ≡ bytes_of (part t (c + 1) 8)
  unfolding count_moved id_of counts_by pair
  sent_at_lem =
      ap count_moved counts_said
      ∙ (λ i. high 1 i ∷ low 1 i ∷ high 3 i ∷ low 3 i ∷ b 5 ∷ b 6 ∷ high 7 i ∷ low 7 i ∷ [])
      ∙ sym cells_sent

-- ---- a record's bytes

module _ (tr : Tracks) (h : Head) (c : ℕ) (counted key body : Bool) (n : Counts) (e : gets (Names.Count key body) tr h c ≡ Ok n) where
  abbrev t : List ℕ
  t = tr h

  abbrev x : Seen
  x = seen_of tr (areas_of (Names.Count key body) tr h c)

  -- a part that is not named has no bytes
  picked : (b : Bool) (first m : ℕ) → pick b (bytes_of (part t first m)) [] ≡ bytes_of (part t first (pick b m 0))
  unfolding bytes_of part
  picked true first m = refl
  picked false first m = refl

  lie_if : (b : Bool) (first m : ℕ) → (b ≡ true → 0 < m → first + m ≤ length t) → LieIf t first (pick b m 0)
  lie_if true first m h = record { ends = h refl }
  lie_if false first m h = record { ends = λ k. absurd (omega arith) }

  count_is : pick counted (count_moved n) [] ≡ count_given t counted c
  count_is =
      ap (λ (y : List ℕ). pick counted y [])
      (ap count_moved (record_counts tr h c key body n e) ∙ sent_at_lem t c (count-lies tr h c key body n e))
      ∙ picked counted (c + 1) 8

  twice : (b : Bool) (v : List ℕ) → pick b (pick b v []) [] ≡ pick b v []
  twice true v = refl
  twice false v = refl

  key_is : pick key x.key [] ≡ key_given t key c n
  key_is = ap (λ (y : List ℕ). pick key y []) (record_key tr h c key body n e) ∙ twice key _ ∙ picked key _ n.kl

  body_is : pick body x.body [] ≡ body_given t body c n
  body_is = ap (λ (y : List ℕ). pick body y []) (record_body tr h c key body n e) ∙ twice body _ ∙ picked body _ n.dl

  record_lies : LieAll t (parts counted key body) c n
  record_lies = record {
    count = lie_if counted (c + 1) 8 (λ _ _. omega (arith, count-lies tr h c key body n e));
    key = lie_if key _ n.kl (key_lies tr h c key body n e);
    body = lie_if body _ n.dl (body_lies tr h c key body n e);
  }

-- ---- by what a job names

module _ (t : Tracks) (j : Job) (s : Sighted t j) where
  abbrev on : List ℕ
  on = t j.task.head

  sees_by : (m : Names) → j.names ≡ m → gets m t j.task.head j.task.place ≡ Ok j.counts
  sees_by m p = ap (λ (x : Names). gets x t j.task.head j.task.place) (sym p) ∙ s.sees

  gives_at : (m : Names) → gets m t j.task.head j.task.place ≡ Ok j.counts → (counted : Bool)
      → offered m counted j.counts (seen_of t (areas_of m t j.task.head j.task.place)) ≡ bytes_given on counted m j.task.place j.counts
  unfolding offered bytes_given
  gives_at Names.Nothing e counted = refl
  gives_at Names.HomeAddress e counted = home_seen t j.task.head j.task.place
  gives_at (Names.Count key body) e counted =
      let c = j.task.place in
      let n = j.counts in
      (λ i. count_is t j.task.head c counted key body n e i
      ++ (key_is t j.task.head c counted key body n e i ++ body_is t j.task.head c counted key body n e i))

  pub gives_these : (counted : Bool)
      → offered j.names counted j.counts (seen_of t (areas_read t j)) ≡ bytes_given on counted j.names j.task.place j.counts
  unfolding areas_read
  gives_these = gives_at j.names s.sees

  -- they lie on the track
  pub home_on : j.names ≡ Names.HomeAddress → LieIf on 0 5
  home_on p = record { ends = λ _. omega (arith, home_lies t j.task.head j.task.place j.counts (sees_by _ p)) }

  pub record_on : (counted key body : Bool) → j.names ≡ Names.Count key body → LieAll on (parts counted key body) j.task.place j.counts
  record_on counted key body p = record_lies t j.task.head j.task.place counted key body j.counts (sees_by _ p)

  -- these bytes put into lent ones are those that the read gives
  module _ (counted : Bool) (v : List ℕ) where
    given_are : given (read_turn counted (sight t j v)).moves ≡ bytes_given on counted j.names j.task.place j.counts
    unfolding given read_turn end_turn end_turn_at sight
    given_are = gives_these counted

    module _ (m : Names) (p : j.names ≡ m) (l : List ℕ) (from : ℕ) where
      filled_by : filled l from (bytes_given on counted m j.task.place j.counts) ≡ filled l from (given (read_turn counted (sight t j v)).moves)
      filled_by = ap (λ (x : Names). filled l from (bytes_given on counted x j.task.place j.counts)) (sym p) ∙ ap (filled l from) (sym given_are)

      pub puts_given : (out : List ℕ) (r x : Filling) → r ≡ start from → Puts l r (bytes_given on counted m j.task.place j.counts) out x
          → out ≡ filled l from (given (read_turn counted (sight t j v)).moves)
      puts_given out r x e q = all_put l from _ out r x e q ∙ filled_by

    pub gives_none : j.names ≡ Names.Nothing → (l : List ℕ) (from : ℕ) → l ≡ filled l from (given (read_turn counted (sight t j v)).moves)
    unfolding bytes_given
    gives_none p l from = none_put l from ∙ filled_by Names.Nothing p l from

-- ---- what the channel is told

module _ (t : List ℕ) (c : ℕ) (counted : Bool) (n : Counts) where
  record_many : (key body : Bool) → LieAll t (parts counted key body) c n
      → length (bytes_given t counted (Names.Count key body) c n) ≡ many_given counted (Names.Count key body) n
  unfolding bytes_given many_given
  record_many key body h =
      let x = count_given t counted c in
      let y = key_given t key c n in
      let z = body_given t body c n in
      omega (arith, length-append x (y ++ z), length-append y z, long t _ _ h.count, long t _ _ h.key, long t _ _ h.body)

module _ (t : Tracks) (j : Job) (s : Sighted t j) (counted : Bool) where
  many_are : (m : Names) → j.names ≡ m
      → length (bytes_given (t j.task.head) counted m j.task.place j.counts) ≡ many_given counted m j.counts
  unfolding bytes_given many_given
  many_are Names.Nothing p = refl
  many_are Names.HomeAddress p = long _ 0 5 (home_on t j s p)
  many_are (Names.Count key body) p = record_many _ _ counted j.counts key body (record_on t j s counted key body p)

  pub told_are : (v : List ℕ)
      → report_at j j.task (ending_of j) (Transfer.Gives (many_given counted j.names j.counts)) false ≡ report_of (read_turn counted (sight t j v))
  unfolding report_of transfer_of read_turn end_turn end_turn_at sight report_at
  told_are v =
      ap (λ (m : ℕ). report_at j j.task (ending_of j) (Transfer.Gives m) false) (sym (ap length (gives_these t j s counted) ∙ many_are j.names refl))
