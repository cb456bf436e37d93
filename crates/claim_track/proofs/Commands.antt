-- The writes as commands: one that ends in Unit Check lays no cell; what any other leaves lasts and can be read back. Why: a command is refused, or fails
-- in what it reads first, or finds no room or no recorded bytes, and then it lays nothing; else it lays what the laws of the format writes and of the
-- updates are about.
use Prim.Native.Nat.{ℕ, ◌+◌, ◌≤◌}
use mathlib.Core.Path.{◌≡◌, refl, sym, ap, ◌∙◌, subst}
use mathlib.Core.Bool.{Bool, true, false}
use mathlib.Core.List.{List, [], ◌∷◌, ◌++◌}
use native.Mathlib.Omega.{arith}
use lib.ListN.{length}
use lib.Dec.{eqb}
use Rattle.cells.specs.Cells.{pick, both, padded, track_cells, marker, marks}
use Rattle.cells.proofs.Numbers.{Bytes}
use Rattle.cells.proofs.Tests.{first_picked, second_picked}
use Rattle.rows.specs.declared.{Row.Row}
use Rattle.table.specs.declared.Writing.TheVariants.{HomeOrR0}
use Rattle.house_check.specs.Check as House
use Rattle.areas.specs.declared.{Counts.Counts}
use Rattle.areas.specs.Areas.{home_bytes, home_area, home_flag, r0_first, counts_at, key_area, data_area, record_cells, end_by, needed, readable, row_of, flag_of_r0, flag_after}
use Rattle.hunt.specs.declared.{Spot.Spot}
use Rattle.hunt.specs.Hunt.{count_first}
use Rattle.room.specs.Room.{fits}
use Rattle.room.proofs.Laws.{fits_ends}
use Rattle.pack.specs.declared.{Head.Head, Shape.Shape}
use Rattle.held.specs.declared.{Position.Position, Orders.Orders}
use Rattle.turn.specs.declared.Ending.TheVariants.{Normal, Exception, Check}
use Rattle.turn.specs.Turn.{position_at, after, orders_of, Tracks, TrackArea, Piece, Moves, Takes, Turn, lay, check_turn}
use Rattle.command.specs.declared.{Task.Task}
use Rattle.format.specs.Format.{new_counts, new_record}
use Rattle.format.proofs.Laws.{formatted, length-area, length-new}
use Rattle.table.specs.declared.{Licence.Licence, Bar.Bar, Write.Write, Act.Act, Rule.Rule}
use Rattle.table.specs.Table.{rule_of, find, controls, searches, reads, writes, bars_write}
use Rattle.command.specs.Command.{marks_of, home_done, licensed, task, home_place, SelectedOn, tallies, on_record, aimed, unless_barred, named, on_head, areas_of, all_read, no_counts, counts_in, gets, seen_with, seen_of, goes_over, writes_over, all_recorded, Sight, areas_read, sight, fail_turn, end_turn_at, end_turn, ending_of, piece, to_end, home_turn, record_takes, new_turn, r0_turn, record_turn, over_piece, key_sent, update_turn, write_turn, act_turn, job_of, has_read, ready_by, plan_reads, ready_turn, rule_turn, command, position_after, orders_after}
use Rattle.command.proofs.Pieces.{format_is}
use Rattle.sound.specs.Sound.{Sound}
use Rattle.claim_track.specs.Damage.{IsRecord}
use Rattle.claim_track.specs.Lasting.{HomeOnly, Lasts, NewBack, ReadsBack, Took, Permitted, Leaves, unchanged, written}
use Rattle.claim_track.proofs.Format.{flag_of_r0_lem, home_back, home_lasts, r0_back, r0_lasts, record_back, record_lasts}
use Rattle.claim_track.proofs.Update.{updated, update_is, update_lasts, update_back}
use Rattle.claim_track.proofs.Works.{permitted_plan, OnSelected, Needs, write_turn_lem}
use Rattle.std.specs.Prelude.{None, Some, Ok, Err, Option, Result}

-- ---- what is laid

not_check : (b : Bool) (row : Row) → pick b Exception Normal ≡ Check row → ⊥
not_check true row e = let z : ◌≡◌ {A = ℕ} 0 1 = cc in omega arith
not_check false row e = let z : ◌≡◌ {A = ℕ} 0 1 = cc in omega arith

module _ (r : Rule) (tr : Tracks) (s : Position) (o : Orders) (v : List ℕ) (long : length (tr s.head) ≡ track_cells) (b : Bytes v) where
  abbrev t : List ℕ
  t = tr s.head

  abbrev Good : Write → Turn → Type 0
  Good w x = Leaves r w o v t x

  -- a row ended it
  ended : (w : Write) (l : List TrackArea) (row : Row) → Good w (check_turn s o l row)
  unfolding check_turn
  ended w l row = unchanged row refl refl

  module _ (permitted : Permitted r o) (code : ℕ) (k : Task) (n : Counts) (here : k.head ≡ s.head) where
    abbrev x : Sight
    x = sight tr (job_of code r s o k n) v

    failed : (w : Write) (row : Row) → Good w (fail_turn x row)
    unfolding fail_turn sight
    failed w row = ended w _ row

    -- it laid cells that leave t'
    did : (w : Write) (spot : Spot) → Took w o.selection spot → (k' : Task) (empty : Bool) (m : Moves) (l : List Piece) (t' : List ℕ) → lay l t ≡ t'
        → Lasts w t t' → ReadsBack w (count_first spot) v t t' → Good w (end_turn_at x k' (pick empty Exception Normal) m l false)
    unfolding end_turn_at
    did w spot took k' empty m l t' e p q =
        written permitted spot took (not_check empty) (subst (Lasts w t) (sym e) p) (subst (ReadsBack w (count_first spot) v t) (sym e) q)

    home_good : Good Write.HomeAddress (home_turn x)
    unfolding home_turn end_turn piece sight lay Took Lasts ReadsBack
    home_good =
        let w : List ℕ = House.cells_with_check (padded home_bytes v) in
        did Write.HomeAddress Spot.R0 tt k false _ _ (formatted t 0 w) (format_is t 0 w long (omega (arith, length-area home_bytes v)))
        (home_lasts t v long b) (home_back t v long b)

    -- a new record of so many cells, if it has room
    new_good : (w : Write) (spot : Spot) → Took w o.selection spot → (k' : Task) (first : ℕ) (c : Counts) (need : ℕ) (cells : List ℕ) → length cells ≡ need
        → (first + need ≤ 4096 → Lasts w t (formatted t first cells))
        → (first + need ≤ 4096 → ReadsBack w (count_first spot) v t (formatted t first cells)) → Good w (new_turn x k' first c need cells)
    unfolding new_turn piece sight lay
    new_good w spot took k' first c need cells e p q = go (fits first need) refl
      where
        go : (y : Bool) → fits first need ≡ y
            → Good w (pick y (end_turn_at x k' Normal (Takes (record_takes x.sent c)) (piece x first (to_end first cells) ∷ []) false) (fail_turn x Row.NoRoom))
        go true f =
            let h : first + need ≤ 4096 = fits_ends first need f in
            did w spot took k' false _ _ (formatted t first cells) (format_is t first cells long (omega (arith, e, h))) (p h) (q h)
        go false f = failed w Row.NoRoom

    r0_good : (flag : ℕ) → flag ≡ flag_of_r0 (home_flag t) → readable t home_area ≡ true → Good Write.R0 (r0_turn x flag)
    unfolding r0_turn sight Took Lasts ReadsBack
    r0_good flag e home =
        new_good Write.R0 Spot.R0 tt k r0_first (new_counts flag v) (record_cells (new_counts flag v)) (new_record flag v) (length-new flag v)
        (λ h. r0_lasts t v long b flag h e home)
        (λ h. subst (λ (f : ℕ). NewBack f v (formatted t r0_first (new_record flag v)) r0_first) e
        (r0_back t v long b flag h (omega (arith, e, flag_of_r0_lem (home_flag t)))))

    record_good : (spot : Spot) → o.selection ≡ Some spot → IsRecord t spot
        → Good Write.CountKeyData (record_turn x (end_by (count_first spot) (counts_at t (count_first spot))) (flag_after (counts_at t (count_first spot)).flag))
    unfolding record_turn needed sight Took Lasts ReadsBack
    record_good spot took B =
        let m : Counts = counts_at t (count_first spot) in
        let at : ℕ = end_by (count_first spot) m in
        let c : Counts = new_counts (flag_after m.flag) v in
        new_good Write.CountKeyData spot took _ at c (1 + record_cells c) (marker ∷ new_record (flag_after m.flag) v)
        (omega (arith, length-new (flag_after m.flag) v))
        (λ h. λ S. record_lasts t v long b at m.flag h S spot B refl refl) (λ h. record_back t v long b at m.flag h)

    update_good : (key : Bool) (spot : Spot) → o.selection ≡ Some spot → IsRecord t spot
        → x.recorded ≡ all_recorded t (named (count_first spot) key true (counts_at t (count_first spot)))
        → Good (Write.Update key) (update_turn key x (count_first spot) (counts_at t (count_first spot)))
    unfolding update_turn end_turn ending_of sight Took Lasts ReadsBack
    update_good key spot took B e = go x.recorded refl
      where
        c : ℕ
        c = count_first spot

        m : Counts
        m = counts_at t c

        go : (y : Bool) → x.recorded ≡ y → Good (Write.Update key) (pick y
            (end_turn x (ending_of x.job) (Takes (key_sent key m + m.dl))
            (over_piece x (key_area c m) 0 (key_sent key m) ++ over_piece x (data_area c m) (key_sent key m) m.dl) false)
            (fail_turn x Row.Unreadable))
        go true q =
            did (Write.Update key) spot took k (both r.excepts (eqb n.dl 0)) _ _ (updated key v c m t) (update_is x key c m t)
            (λ S. update_lasts key v t b S spot B) (update_back key v t c b (sym e ∙ q))
        go false q = failed (Write.Update key) Row.Unreadable

    -- ---- a write that has what it needs

    module _ (sel : SelectedOn (marks t) o.selection) where
      begun : (spot : Spot) → o.selection ≡ Some spot → IsRecord t spot
      unfolding SelectedOn
      begun spot e = subst (SelectedOn (marks t)) e sel

      -- the count of the record selected
      selected_counts : (spot : Spot) → k.place ≡ count_first spot → n ≡ counts_at (tr k.head) k.place → counts_at t (count_first spot) ≡ n
      selected_counts spot p e = sym (e ∙ (λ i. counts_at (tr (here i)) (p i)))

      lays_good : (w : Write) → r.act ≡ Act.Write w → Needs w r o tr k n → Good w (write_turn w x)
      unfolding write_turn sight areas_read goes_over writes_over
      lays_good Write.HomeAddress act has = home_good
      lays_good Write.R0 act has =
          r0_good _ (ap flag_of_r0 (has.1 ∙ ap (λ (h : Head). home_flag (tr h)) here)) (ap (λ (h : Head). readable (tr h) home_area) (sym here) ∙ has.0)
      lays_good Write.CountKeyData act has =
          let O : OnSelected o k.place = has.0 in
          subst (λ (c : ℕ). Good Write.CountKeyData (record_turn x (end_by c n) (flag_after n.flag))) (sym O.place)
          (subst (λ (m : Counts). Good Write.CountKeyData (record_turn x (end_by (count_first O.spot) m) (flag_after m.flag)))
          (selected_counts O.spot O.place has.1) (record_good O.spot O.is (begun O.spot O.is)))
      lays_good (Write.Update key) act has =
          let O : OnSelected o k.place = has.0 in
          let c : ℕ = count_first O.spot in
          let e : counts_at t c ≡ n = selected_counts O.spot O.place has.1 in
          let over_piece : x.recorded ≡ all_recorded t (named c key true (counts_at t c)) =
          (λ i. all_recorded (tr (here i)) (goes_over (act i) (O.place i) (sym e i))) in
          subst (λ (d : ℕ). Good (Write.Update key) (update_turn key x d n)) (sym O.place)
          (subst (λ (m : Counts). Good (Write.Update key) (update_turn key x c m)) e (update_good key O.spot O.is (begun O.spot O.is) over_piece))

-- ---- the command

-- the track left is soundly written if the track was
left_sound : (r : Rule) (w : Write) (o : Orders) (v t : List ℕ) (x : Turn) → (w ≡ Write.HomeAddress → ⊥) → Sound t → Leaves r w o v t x → Sound (lay x.lays t)
unfolding Lasts lay
left_sound r w o v t x n S (unchanged row e q) = subst (λ (l : List Piece). Sound (lay l t)) (sym q) S
left_sound r Write.HomeAddress o v t x n S (written a spot e g p q) = absurd (n refl)
left_sound r Write.R0 o v t x n S (written a spot e g p q) = p
left_sound r Write.CountKeyData o v t x n S (written a spot e g p q) = p S
left_sound r (Write.Update key) o v t x n S (written a spot e g p q) = p S

module _ (g : Shape) (t : Tracks) (s : Position) (o : Orders) (code : ℕ) (v : List ℕ) (bytes : Bytes v) (w : Write) (act : (rule_of code).act ≡ Act.Write w)
    (sel : SelectedOn (marks (t s.head)) o.selection) where
  pub writes_leave : length (t s.head) ≡ track_cells → Leaves (rule_of code) w o v (t s.head) (command g t s o code v)
  writes_leave long =
      write_turn_lem g t s o code v w act (Leaves (rule_of code) w o v (t s.head)) (ended (rule_of code) t s o v long bytes w)
      (λ q k n here has. lays_good (rule_of code) t s o v long bytes q code k n here sel w act has)

  -- every write but Write HA leaves a soundly written track soundly written, however it ends
  pub writes_sound : (w ≡ Write.HomeAddress → ⊥) → Sound (t s.head) → Sound (lay (command g t s o code v).lays (t s.head))
  writes_sound n S = left_sound (rule_of code) w o v (t s.head) (command g t s o code v) n S (writes_leave S.long)

-- ---- Write HA, then Write R0: the track is soundly written, whatever it was, if the mask bars neither

-- what ended normally was written
normal_lasts : (r : Rule) (w : Write) (o : Orders) (v t : List ℕ) (x : Turn) → x.ending ≡ Normal → Leaves r w o v t x → Lasts w t (lay x.lays t)
normal_lasts r w o v t x e (unchanged row c q) = absurd (not_check false row (sym e ∙ c))
normal_lasts r w o v t x e (written a spot took g p q) = p

-- what such a write sees when it lays
abbrev write_sight : Tracks → Position → Orders → ℕ → ℕ → Option Spot → List ℕ → Sight
write_sight t s o code place x v = sight t (job_of code (rule_of code) s o (task s.head place x 0) no_counts) v

permits : (o : Orders) → bars_write o.mask HomeOrR0 ≡ false → (r : Rule) → r.bar ≡ Bar.Writes HomeOrR0 → licensed r.licence o ≡ true → Permitted r o
unfolding unless_barred
permits o allowed r e l = record {
  licence = l;
  mask = λ p. ap (λ (b : Bar). unless_barred b o.mask p) e ∙ second_picked (bars_write o.mask HomeOrR0) (Err Row.WriteBarred) p allowed;
}

module _ (g : Shape) (t : Tracks) (s : Position) (o : Orders) (v : List ℕ) (allowed : bars_write o.mask HomeOrR0 ≡ false) where
  home_permitted : Permitted (rule_of 0x19) o
  unfolding licensed rule_of find controls searches reads writes
  home_permitted = permits o allowed (rule_of 0x19) refl refl

  home_is : command g t s o 0x19 v ≡ home_turn (write_sight t s o 0x19 home_place None v)
  unfolding command rule_turn aimed ready_turn ready_by has_read gets areas_of counts_in all_read act_turn write_turn rule_of find controls searches reads writes
  home_is =
      let r : Rule = rule_of 0x19 in
      ap (λ (p : Result Task Row). ready_turn g t s o v (plan_reads t r p) (ready_by t 0x19 r s o p)) (permitted_plan r (marks_of t) s o home_permitted)

  module _ (before : licensed Licence.HomeAddress o ≡ true) (home : readable (t s.head) home_area ≡ true) where
    r0_permitted : Permitted (rule_of 0x15) o
    unfolding rule_of find controls searches reads writes
    r0_permitted = permits o allowed (rule_of 0x15) refl before

    r0_is : command g t s o 0x15 v ≡ r0_turn (write_sight t s o 0x15 r0_first (Some Spot.R0) v) (flag_of_r0 (home_flag (t s.head)))
    unfolding command rule_turn aimed on_record tallies count_first ready_turn ready_by has_read gets areas_of on_head counts_in all_read seen_of seen_with act_turn write_turn sight areas_read rule_of find controls searches reads writes
    r0_is =
        let k : Task = task s.head r0_first (Some Spot.R0) 0 in
        let r : Rule = rule_of 0x15 in
        ap (λ (p : Result Task Row). ready_turn g t s o v (plan_reads t r p) (ready_by t 0x15 r s o p)) (permitted_plan r (marks_of t) s o r0_permitted)
        ∙ ap (λ (y : Result Counts Row). ready_turn g t s o v (plan_reads t r (Ok k)) (has_read 0x15 r s o k y))
        (first_picked (readable (t s.head) home_area) (Ok no_counts) (Err (row_of home_area.part)) home)

    -- Write R0 after home address work, with room
    pub r0_sound : length (t s.head) ≡ track_cells → Bytes v
        → fits r0_first (record_cells (new_counts (flag_of_r0 (home_flag (t s.head))) v)) ≡ true → Sound (lay (command g t s o 0x15 v).lays (t s.head))
    unfolding r0_turn new_turn end_turn_at sight Lasts
    r0_sound long b room =
        let flag : ℕ = flag_of_r0 (home_flag (t s.head)) in
        let k : Task = task s.head r0_first (Some Spot.R0) 0 in
        let x : Turn = r0_turn (write_sight t s o 0x15 r0_first (Some Spot.R0) v) flag in
        let e : x.ending ≡ Normal = ap (λ (y : Turn). y.ending) (first_picked (fits r0_first (record_cells (new_counts flag v))) _ _ room) in
        subst (λ (y : Turn). Sound (lay y.lays (t s.head))) (sym r0_is)
        (normal_lasts _ Write.R0 o v (t s.head) x e (r0_good (rule_of 0x15) t s o v long b r0_permitted 0x15 k no_counts refl flag refl home))

module _ (g : Shape) (t : Tracks) (s : Position) (o : Orders) (v : List ℕ) (allowed : bars_write o.mask HomeOrR0 ≡ false) where
  -- after the turn x, on the tracks t' that it left, Write R0 with the bytes u, which has room
  abbrev pub ThenR0 : Turn → Type 0
  ThenR0 x = (t' : Tracks) → t' s.head ≡ lay x.lays (t s.head) → (u : List ℕ) → Bytes u
      → fits r0_first (record_cells (new_counts (flag_of_r0 (home_flag (t' s.head))) u)) ≡ true
      → Sound (lay (command g t' x.position x.orders 0x15 u).lays (t' s.head))

  then_r0 : length (t s.head) ≡ track_cells → Bytes v → ThenR0 (home_turn (write_sight t s o 0x19 home_place None v))
  unfolding home_turn end_turn end_turn_at position_after position_at orders_after after orders_of sight Lasts licensed home_done
  then_r0 long b t' e u b' room =
      let x : Turn = home_turn (write_sight t s o 0x19 home_place None v) in
      let H : HomeOnly (t' s.head) =
      subst HomeOnly (sym e) (normal_lasts _ Write.HomeAddress o v (t s.head) x refl
      (home_good (rule_of 0x19) t s o v long b (home_permitted g t s o v allowed) 0x19 (task s.head home_place None 0) no_counts refl)) in
      r0_sound g t' x.position x.orders u allowed refl H.home H.long b' room

  pub home_then_r0 : length (t s.head) ≡ track_cells → Bytes v → ThenR0 (command g t s o 0x19 v)
  home_then_r0 long b = subst ThenR0 (sym (home_is g t s o v allowed)) (then_r0 long b)
