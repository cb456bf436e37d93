-- An area that is checked before what else is got, and a record's count area before its key and its data.
use Prim.Native.Nat.{ℕ}
use mathlib.Core.Path.{◌≡◌, refl, sym, ap, ◌∙◌}
use mathlib.Core.Bool.{Bool, true, false}
use mathlib.Core.List.{List, [], ◌∷◌, ◌++◌}
use lib.Dec.{ltb}
use Rattle.cells.specs.Cells.{pick, both}
use Rattle.rows.specs.declared.{Row.Row}
use Rattle.rows.specs.declared.Row.TheVariants.{UnreadableCount}
use Rattle.areas.specs.declared.{Area.Area, Counts.Counts}
use Rattle.areas.specs.Areas.{home_area, count_area, key_area, data_area, readable, row_of, counts_at, read_count}
use Rattle.pack.specs.declared.{Head.Head}
use Rattle.command.specs.Command.{area_if, named, named_by, no_counts, on_head, areas_of, all_read, counts_in, gets}
use Rattle.table.specs.declared.{Names.Names}
use Rattle.turn.specs.Turn.{Tracks, alone}
use Rattle.std.specs.Prelude.{Some, None, Ok, Err, Result, Option}
use Rattle.std.specs.Option.{ok_or}
use Rattle.std.specs.Result.{IsErrAnd}
use Rattle.std.proofs.lemmas.Result.{err_from_is_err_and}

-- what else is got, where a check found nothing, or its row
unfoldable pub unless : Result (Unit {0}) Row → Result Counts Row → Result Counts Row
unless (Ok u) x = x
unless (Err row) x = Err row

abbrev pub checked : Bool → List ℕ → Area → Result (Unit {0}) Row
checked there t a = pick there (pick (readable t a) (Ok tt) (Err (row_of a.part))) (Ok tt)

-- ---- an area before what else is got

module _ (t : List ℕ) (h : Head) where
  area_first : (b : Bool) (a : Area) (l : List Area) (x : Result Counts Row)
      → unless (checked b t a) (all_read (alone t) (on_head h l) x) ≡ all_read (alone t) (on_head h (area_if b a ++ l)) x
  unfolding unless area_if all_read on_head
  area_first false a l x = refl
  area_first true a l x = go (readable t a)
    where
      go : (r : Bool) → unless (pick r (Ok tt) (Err (row_of a.part))) (all_read (alone t) (on_head h l) x) ≡ pick r (all_read (alone t) (on_head h l) x) (Err (row_of a.part))
      go true = refl
      go false = refl

  last_area : (b : Bool) (a : Area) (x : Result Counts Row) → unless (checked b t a) x ≡ all_read (alone t) (on_head h (area_if b a)) x
  unfolding unless area_if all_read on_head
  last_area false a x = refl
  last_area true a x = area_first true a [] x

  -- the key before the data
  pub named_first : (c : ℕ) (key body : Bool) (n : Counts) (x y : Bool) (k d : Area) (r s : Result (Unit {0}) Row)
      → x ≡ both key (ltb 0 n.kl) → k ≡ key_area c n → r ≡ checked x t k → y ≡ both body (ltb 0 n.dl) → d ≡ data_area c n → s ≡ checked y t d
      → unless r (unless s (Ok n)) ≡ all_read (alone t) (on_head h (named c key body n)) (Ok n)
  unfolding named
  named_first c key body n x y k d r s p q e u v f =
      (λ i. unless (e i) (unless (f i) (Ok n)))
      ∙ ap (unless (checked x t k)) (last_area y d (Ok n))
      ∙ area_first x k (area_if y d) (Ok n)
      ∙ (λ i. all_read (alone t) (on_head h (area_if (p i) (q i) ++ area_if (u i) (v i))) (Ok n))

  module _ (c : ℕ) (key body : Bool) (n : Counts) (x : Bool) (k : Area) (r : Result (Unit {0}) Row)
      (p : x ≡ both key (ltb 0 n.kl)) (q : k ≡ key_area c n) (e : r ≡ checked x t k) where
    abbrev all_named : Result Counts Row
    all_named = all_read (alone t) (on_head h (named c key body n)) (Ok n)

    pub key_fails : (row : Row) (g : Result Counts Row) → r ≡ Err row → IsErrAnd g (λ z. z ≡ row) → g ≡ all_named
    unfolding unless
    key_fails row g f w =
        let z = err_from_is_err_and g w in
        z.1 ∙ ap Err z.2 ∙ ap (λ y. unless y (unless (checked (both body (ltb 0 n.dl)) t (data_area c n)) (Ok n))) (sym f)
        ∙ named_first c key body n x (both body (ltb 0 n.dl)) k (data_area c n) r _ p q e refl refl refl

    module _ (y : Bool) (d : Area) (s : Result (Unit {0}) Row) (u : y ≡ both body (ltb 0 n.dl)) (v : d ≡ data_area c n) (f : s ≡ checked y t d) where
      pub data_fails : (o : Unit {0}) (row : Row) (g : Result Counts Row) → r ≡ Ok o → s ≡ Err row → IsErrAnd g (λ z. z ≡ row) → g ≡ all_named
      unfolding unless
      data_fails o row g a b w =
          let z = err_from_is_err_and g w in
          z.1 ∙ ap Err z.2 ∙ (λ i. unless (sym a i) (unless (sym b i) (Ok n))) ∙ named_first c key body n x y k d r s p q e u v f

      pub named_read : (o m : Unit {0}) → r ≡ Ok o → s ≡ Ok m → Ok n ≡ all_named
      unfolding unless
      named_read o m a b = (λ i. unless (sym a i) (unless (sym b i) (Ok n))) ∙ named_first c key body n x y k d r s p q e u v f

-- ---- by the count area

-- what is got once the count area is read, on any tracks: an unreadable one ends it
abbrev pub counted : Tracks → Head → ℕ → Bool → Bool → Result Counts Row → Result Counts Row
counted w h c key body (Ok n) = all_read w (on_head h (named c key body n)) (Ok n)
counted w h c key body (Err row) = Err row

pub count_told : (w : Tracks) (h : Head) (c : ℕ) (key body : Bool)
    → gets (Names.Count key body) w h c ≡ counted w h c key body (ok_or (read_count (w h) c) UnreadableCount)
unfolding gets areas_of all_read on_head named_by read_count counts_in row_of
count_told w h c key body = go (readable (w h) (count_area c))
  where
    n : Counts
    n = counts_at (w h) c

    go : (b : Bool)
        → pick b (all_read w (on_head h (named_by c key body (pick b (Some n) None))) (Ok n)) (Err UnreadableCount)
        ≡ counted w h c key body (ok_or (pick b (Some n) None) UnreadableCount)
    go true = refl
    go false = refl

module _ (t : List ℕ) (h : Head) (c : ℕ) (key body : Bool) where
  module _ (x : Option Counts) (q : x ≡ read_count t c) where
    by_count : counted (alone t) h c key body (ok_or x UnreadableCount) ≡ gets (Names.Count key body) (alone t) h c
    by_count = ap (λ o. counted (alone t) h c key body (ok_or o UnreadableCount)) q ∙ sym (count_told (alone t) h c key body)

    pub count_fails : (row : Row) (g : Result Counts Row) → Err row ≡ ok_or x UnreadableCount → IsErrAnd g (λ z. z ≡ row) → g ≡ gets (Names.Count key body) (alone t) h c
    count_fails row g e w =
        let z = err_from_is_err_and g w in
        z.1 ∙ ap Err z.2 ∙ ap (counted (alone t) h c key body) e ∙ by_count

    pub count_reads : (n : Counts) (g : Result Counts Row) → Ok n ≡ ok_or x UnreadableCount → g ≡ all_read (alone t) (on_head h (named c key body n)) (Ok n)
        → g ≡ gets (Names.Count key body) (alone t) h c
    count_reads n g e w = w ∙ ap (counted (alone t) h c key body) e ∙ by_count

-- ---- by what is named

-- of the six zeros of the default
pub counts_none : (k : Counts) → (k.flag ≡ 0) × ((k.cc ≡ 0) × ((k.hh ≡ 0) × ((k.r ≡ 0) × ((k.kl ≡ 0) × (k.dl ≡ 0))))) → k ≡ no_counts
counts_none k (f, (p, (q, (r, (l, d))))) = λ i. record { flag = f i; cc = p i; hh = q i; r = r i; kl = l i; dl = d i }

module _ (t : List ℕ) (h : Head) (c : ℕ) (n : Names) where
  pub nothing_named : (k : Counts) → n ≡ Names.Nothing → k ≡ no_counts → Ok k ≡ gets n (alone t) h c
  unfolding gets areas_of all_read counts_in
  nothing_named k e f = ap Ok f ∙ ap (λ (m : Names). gets m (alone t) h c) (sym e)

  module _ (a : Area) (r : Result (Unit {0}) Row) (e : n ≡ Names.HomeAddress) (p : a ≡ home_area) (q : r ≡ checked true t a) where
    home_first : (k : Counts) → k ≡ no_counts → unless r (Ok k) ≡ gets n (alone t) h c
    unfolding gets areas_of counts_in area_if
    home_first k f =
        (λ i. unless (q i) (Ok (f i))) ∙ last_area t h true a (Ok no_counts)
        ∙ ap (λ (b : Area). all_read (alone t) (on_head h (b ∷ [])) (Ok no_counts)) p ∙ ap (λ (m : Names). gets m (alone t) h c) (sym e)

    pub home_fails : (row : Row) (g : Result Counts Row) → r ≡ Err row → IsErrAnd g (λ z. z ≡ row) → g ≡ gets n (alone t) h c
    unfolding unless
    home_fails row g f w =
        let z = err_from_is_err_and g w in
        z.1 ∙ ap Err z.2 ∙ ap (λ y. unless y (Ok no_counts)) (sym f) ∙ home_first no_counts refl

    pub home_read : (o : Unit {0}) (k : Counts) → r ≡ Ok o → k ≡ no_counts → Ok k ≡ gets n (alone t) h c
    unfolding unless
    home_read o k f w = ap (λ y. unless y (Ok k)) (sym f) ∙ home_first k w
