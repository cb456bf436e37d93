-- The two words of the loop. Search ID over five bytes comes to a record, whose count is readable, and moves five bytes of five; it is satisfied by the
-- record whose ID was sent and by no other, since five bytes are one number and no other five are. The TIC leaves all but the next word's address.
use Prim.Native.Nat.{ℕ, zero, suc, ◌+◌, ◌*◌, ◌<◌, ◌≤◌}
use mathlib.Core.Path.{◌≡◌, refl, sym, ap, ◌∙◌, subst}
use mathlib.Core.Bool.{Bool, true, false, not}
use mathlib.Core.List.{List, [], ◌∷◌}
use native.Mathlib.Omega.{arith}
use lib.ListN.{length, get_or}
use lib.Dec.{ltb}
use borrow.Author.Tests.{le-ltb, ne_eqb}
use Rattle.cells.specs.Cells.{pick, both, number_from, number, marks}
use Rattle.cells.proofs.Laws.{overlay_none, get_or-bytes_of}
use Rattle.cells.proofs.Marks.{both_never}
use Rattle.cells.proofs.Numbers.{Bytes}
use Rattle.rows.specs.declared.{Row.Row}
use Rattle.words.specs.declared.{Word.Word, Directive.Directive}
use Rattle.words.specs.Words.{word_bytes, chains, suppresses, stored}
use Rattle.areas.specs.declared.{Area.Area, Counts.Counts}
use Rattle.areas.specs.Areas.{readable, area_bytes, row_of, count_area, counts_of, counts_at, read_count}
use Rattle.hunt.specs.declared.{Spot.Spot}
use Rattle.hunt.specs.Hunt.{next_id, count_first}
use Rattle.std.specs.declared.cmp.Ordering.{Ordering}
use Rattle.compare.specs.Compare.{compared}
use Rattle.compare.proofs.Laws.{compared_same}
use Rattle.pack.specs.declared.{Shape.Shape}
use Rattle.held.specs.declared.{Position.Position, Orders.Orders}
use Rattle.held.specs.Held.{no_sense, rested}
use Rattle.table.specs.declared.{How.How, Aim.Aim, Serves.Serves, Rule.Rule}
use Rattle.table.specs.Table.{count, selects, search_row, find, controls, searches, rule_of}
use Rattle.turn.specs.declared.{Ending.Ending}
use Rattle.turn.specs.Turn.{Tracks, TrackArea, Takes, Turn, turn, given, transfer_of, wants, report_of, is_check, position_at, after}
use Rattle.command.specs.declared.{Task.Task}
use Rattle.command.specs.Command.{marks_of, licensed, task, tallies, on_record, on_next, aimed, unless_barred, plan_of, area_if, named, named_by, on_head, areas_of, all_read, counts_in, gets, areas_read, sight, sense_after, position_after, orders_after, end_turn_at, end_turn, id_bytes, id_of, field_of, comparison, satisfies, satisfies_field, equal_only, satisfied, wholly, field_turn, search_turn, act_turn, has_read, ready_by, plan_reads, ready_turn, rule_turn, command}
use Rattle.command.proofs.Turns.{plan_turn}
use Rattle.command.proofs.Seen.{area-bytes}
use Rattle.channel.specs.Channel.{fetched, placed, bytes_moved, moves_any, length_counts, wrong_length, ends_well, stride, goes_on, onward, held_after, status_after, with_status, storage_after, World, world, jumped}
use Rattle.chain.specs.Step.{under, track_under, next, tracks_of, lay_on, turn_of, settled, obeyed, step_by, step}
use Rattle.claim_back.specs.Found.{id_at, search_id}
use Rattle.std.specs.Prelude.{Some, None, Ok, Err, Result}

-- ---- five bytes as one number

-- of one length and one number they are the same bytes
same_number : (p q : ℕ) (u v : List ℕ) → length u ≡ length v → Bytes u → Bytes v → number_from p u ≡ number_from q v → (p ≡ q) × (u ≡ v)
unfolding number_from
same_number p q [] [] l b c e = (e, refl)
same_number p q [] (y ∷ v) l b c e = absurd (omega arith)
same_number p q (x ∷ u) [] l b c e = absurd (omega arith)
same_number p q (x ∷ u) (y ∷ v) l b c e =
    let s = same_number (p * 256 + x) (q * 256 + y) u v (omega arith) (λ i. b (suc i)) (λ i. c (suc i)) e in
    let bx : x < 256 = b 0 in
    let by : y < 256 = c 0 in
    let first : p * 256 + x ≡ q * 256 + y = s.0 in
    let one : x ≡ y = omega arith in
    (omega arith, λ i. one i ∷ s.1 i)

id_bytes_lem : (cc hh r : ℕ) → cc < 65536 → hh < 65536 → r < 256 → Bytes (id_of cc hh r)
unfolding id_of
id_bytes_lem cc hh r c h l zero = omega arith
id_bytes_lem cc hh r c h l (suc zero) = omega arith
id_bytes_lem cc hh r c h l (suc (suc zero)) = omega arith
id_bytes_lem cc hh r c h l (suc (suc (suc zero))) = omega arith
id_bytes_lem cc hh r c h l (suc (suc (suc (suc zero)))) = l
id_bytes_lem cc hh r c h l (suc (suc (suc (suc (suc i))))) = omega arith

area_are_bytes : (t : List ℕ) (a : Area) → Bytes (area_bytes t a)
area_are_bytes t a i = subst (λ (z : ℕ). z < 256) (sym (ap (λ (l : List ℕ). get_or l i 0) (area-bytes t a) ∙ get_or-bytes_of _ i)) (omega arith)

id_at-bytes : (t : List ℕ) (r : Spot) → Bytes (id_at t r)
unfolding id_at counts_at counts_of
id_at-bytes t r =
    let b = area_are_bytes t (count_area (count_first r)) in
    id_bytes_lem _ _ _ (omega (arith, b 1, b 2)) (omega (arith, b 3, b 4)) (b 5)

-- ---- which record satisfies

neither : (b : Bool) → satisfies How.IfEqual (pick b Ordering.Greater Ordering.Less) ≡ false
unfolding satisfies
neither true = refl
neither false = refl

-- by another number
unequal : (x y : ℕ) → (x ≡ y → ⊥) → satisfies How.IfEqual (compared x y) ≡ false
unfolding compared
unequal x y h =
    ap (λ (b : Bool). satisfies How.IfEqual (pick b Ordering.Equal (pick (ltb y x) Ordering.Greater Ordering.Less))) (ne_eqb x y h) ∙ neither (ltb y x)

module _ (t : List ℕ) (x r : Spot) where
  by_numbers : satisfied How.IfEqual (id_at t x) (id_at t r) ≡ satisfies How.IfEqual (compared (number (id_at t x)) (number (id_at t r)))
  unfolding satisfied satisfies_field comparison id_at id_of
  by_numbers = refl

  by_whole : wholly How.IfEqual (id_at t x) (id_at t r) ≡ satisfied How.IfEqual (id_at t x) (id_at t r)
  unfolding wholly equal_only id_at id_of
  by_whole = refl

  one_length : length (id_at t x) ≡ length (id_at t r)
  unfolding id_at id_of
  one_length = refl

  -- another ID
  pub misses : (id_at t x ≡ id_at t r → ⊥) → satisfied How.IfEqual (id_at t x) (id_at t r) ≡ false
  misses d =
      by_numbers ∙ unequal _ _ (λ e. d (same_number 0 0 (id_at t x) (id_at t r) one_length (id_at-bytes t x) (id_at-bytes t r) e).1)

-- the same
pub meets : (t : List ℕ) (r : Spot) → satisfied How.IfEqual (id_at t r) (id_at t r) ≡ true
unfolding satisfies
meets t r = by_numbers t r r ∙ ap (satisfies How.IfEqual) (compared_same (number (id_at t r)))

-- ---- the turn of Search ID

abbrev rule31 : Rule
rule31 = search_row Aim.NextId count selects Serves.DataAndKey How.IfEqual

rule_is : rule_of 0x31 ≡ rule31
unfolding rule_of find controls searches
rule_is = refl

module _ (g : Shape) (t : Tracks) (s : Position) (o : Orders) (v : List ℕ) (x : Spot) (n : ℕ) where
  abbrev comes_to : Task
  comes_to = task s.head (count_first x) (Some x) (o.tally + n)

  plan31 : next_id (marks (t s.head)) s.place ≡ Some (x, n) → o.tally + n ≤ 1 → plan_of rule31 (marks_of t) s o ≡ Ok comes_to
  unfolding plan_of licensed unless_barred aimed marks_of on_next on_record tallies
  plan31 e h =
      ap (on_next rule31 o s.head) e
      ∙ ap (λ (b : Bool). pick b (Err Row.SecondIndex) (Ok comes_to)) (le-ltb 1 (o.tally + n) h)

  got31 : readable (t s.head) (count_area (count_first x)) ≡ true → gets count t s.head (count_first x) ≡ Ok (counts_at (t s.head) (count_first x))
  unfolding gets areas_of on_head all_read counts_in named_by named area_if read_count row_of
  got31 e =
      ap (λ (b : Bool).
      pick b
      (all_read t (on_head s.head (named_by (count_first x) false false (pick b (Some (counts_at (t s.head) (count_first x))) None))) (Ok (counts_at (t s.head) (count_first x))))
      (Err Row.UnreadableCount)) e

  -- it comes to a record whose count is readable, and takes five bytes
  abbrev turn31 : Turn
  turn31 =
      turn (pick (satisfied How.IfEqual (id_at (t s.head) x) v) Ending.Satisfied Ending.Normal) (Takes id_bytes)
      (areas_of count t s.head (count_first x)) [] (position_at s.cylinder s.head (count_first x) no_sense)
      (after o 0x31 (wholly How.IfEqual (id_at (t s.head) x) v) (o.tally + n) (Some x))

  search31 : next_id (marks (t s.head)) s.place ≡ Some (x, n) → o.tally + n ≤ 1 → readable (t s.head) (count_area (count_first x)) ≡ true
      → command g t s o 0x31 v ≡ turn31
  unfolding command rule_turn ready_turn ready_by has_read plan_reads act_turn search_turn field_of field_turn end_turn end_turn_at position_after orders_after sense_after sight areas_read id_at id_of
  search31 e h r =
      ap (λ (z : Rule). rule_turn g t 0x31 z s o v) rule_is
      ∙ ap (plan_turn g t s o 0x31 v rule31) (plan31 e h)
      ∙ ap (λ (z : Result Counts Row). ready_turn g t s o v (areas_of count t s.head (count_first x)) (has_read 0x31 rule31 s o comes_to z)) (got31 r)

-- ---- the channel's end of it: five bytes moved of five, so the chain goes on, 16 on where it was satisfied

module _ (g : Shape) (w : World) (p flags : ℕ) (chained : chains (search_id p flags) ≡ true) (reads : List TrackArea) (s : Position) (o : Orders) where
  abbrev d : Word
  d = search_id p flags

  abbrev ended : Bool → Turn
  ended b = turn (pick b Ending.Satisfied Ending.Normal) (Takes id_bytes) reads [] s o

  goes_on_lem : (b : Bool) → goes_on d (report_of (ended b)) ≡ true
  unfolding goes_on wrong_length length_counts moves_any is_check ends_well report_of transfer_of wants bytes_moved
  goes_on_lem true = λ i. both (chained i) (both (not (both_never (not (suppresses d)) i)) true)
  goes_on_lem false = λ i. both (chained i) (both (not (both_never (not (suppresses d)) i)) true)

  onward_by : (b : Bool) → stride (pick b Ending.Satisfied Ending.Normal) ≡ pick b (word_bytes + word_bytes) word_bytes
  unfolding stride
  onward_by true = refl
  onward_by false = refl

  ends : (b : Bool)
      → settled g w d (ended b)
      ≡ world (record { position = s; orders = o; channel = onward w.held.channel (pick b (word_bytes + word_bytes) word_bytes) }) w.storage w.cells
  unfolding settled lay_on held_after storage_after with_status placed given report_of
  ends b =
      ap (λ (z : Bool).
      world (pick z (record { position = s; orders = o; channel = onward w.held.channel (stride (pick b Ending.Satisfied Ending.Normal)) }) (rested s))
      (pick z (placed w.storage d []) (stored (placed w.storage d []) (status_after w.held.channel d (report_of (ended b))))) w.cells)
      (goes_on_lem b)
      ∙ (λ i. world (record { position = s; orders = o; channel = onward w.held.channel (onward_by b i) }) (overlay_none w.storage p i) w.cells)

-- ---- the two words

module _ (g : Shape) (w : World) where
  -- a search that comes to x past n index points, and is satisfied or not
  abbrev pub searched : Spot → ℕ → Bool → World
  searched x n b =
      world
      (record {
        position = position_at w.held.position.cylinder w.held.position.head (count_first x) no_sense;
        orders = after w.held.orders 0x31 b n (Some x);
        channel = onward w.held.channel (pick b (word_bytes + word_bytes) word_bytes);
      })
      w.storage w.cells

  pub search_step : (p flags : ℕ) (x r : Spot) (n h : ℕ) (b : Bool) → next w ≡ Ok (Directive.Obey (search_id p flags)) → chains (search_id p flags) ≡ true
      → fetched w.storage (search_id p flags) ≡ id_at (track_under g w) r
      → next_id (marks (track_under g w)) w.held.position.place ≡ Some (x, n) → w.held.orders.tally + n ≡ h → h ≤ 1
      → readable (track_under g w) (count_area (count_first x)) ≡ true
      → satisfied How.IfEqual (id_at (track_under g w) x) (id_at (track_under g w) r) ≡ b → step g w ≡ searched x h b
  unfolding step step_by obeyed turn_of track_under under tracks_of
  search_step p flags x r n h b is chained sent e c l read sat =
      let tr : Tracks = tracks_of g w.cells w.held.position.cylinder in
      let s : Position = w.held.position in
      let o : Orders = w.held.orders in
      let at : List ℕ = track_under g w in
      ap (step_by g w) is
      ∙ ap (settled g w (search_id p flags))
      (search31 g tr s o (fetched w.storage (search_id p flags)) x n e (subst (λ (z : ℕ). z ≤ 1) (sym c) l) read
      ∙ (λ i.
      turn (pick (satisfied How.IfEqual (id_at at x) (sent i)) Ending.Satisfied Ending.Normal) (Takes id_bytes) (areas_of count tr s.head (count_first x)) []
      (position_at s.cylinder s.head (count_first x) no_sense) (after o 0x31 (wholly How.IfEqual (id_at at x) (sent i)) (c i) (Some x)))
      ∙ (λ i.
      turn (pick (sat i) Ending.Satisfied Ending.Normal) (Takes id_bytes) (areas_of count tr s.head (count_first x)) []
      (position_at s.cylinder s.head (count_first x) no_sense) (after o 0x31 ((by_whole at x r ∙ sat) i) h (Some x))))
      ∙ ends g w p flags chained _ _ _ b

  pub tic_step : (a : ℕ) → next w ≡ Ok (Directive.Jump a) → step g w ≡ world (jumped w.held a) w.storage w.cells
  unfolding step step_by
  tic_step a is = ap (step_by g w) is
