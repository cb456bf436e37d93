-- What a search tells, by what its calls say of its field.
use Prim.Native.Nat.{ℕ, ◌+◌, ◌≤◌}
use mathlib.Core.Path.{◌≡◌, sym, ap, ◌∙◌}
use mathlib.Core.Bool.{Bool}
use mathlib.Core.List.{List, []}
use native.Mathlib.Omega.{arith}
use lib.ListN.{length}
use lib.Dec.{leb}
use Rattle.cells.specs.Cells.{pick, both, part, bytes_of}
use Rattle.std.specs.declared.cmp.Ordering.{Ordering}
use Rattle.table.specs.declared.{How.How}
use Rattle.turn.specs.declared.{Ending.Ending, Transfer.Transfer, Report.Report}
use Rattle.turn.specs.declared.Ending.TheVariants.{Normal, Satisfied}
use Rattle.command.specs.Command.{satisfies_field, equal_only, Sighted, sight, comparison, satisfied, wholly, field_turn, search_turn}
use Rattle.turn.specs.Turn.{alone, transfer_of, report_of}
use Rattle.command.specs.declared.{Job.Job}
use Rattle.ending.specs.Ending.{report_at}
use Rattle.ending.proofs.Laws.{ended}
use Rattle.searches.specs.Field.{field_first, field_length}
use Rattle.searches.proofs.Fields.{Lying, field_in, field_lies, lying_long}

module _ (t : List ℕ) (j : Job) (s : Sighted (alone t) j) (n first : ℕ)
    (p : n ≡ field_length j.names j.counts) (q : first ≡ field_first j.names j.task.place) where
  here : Lying t (field_in t j) first n
  here =
      let l = field_lies t j s in
      record {
        there = l.there ∙ (λ i. bytes_of (part t (sym q i) (sym p i)));
        ends = omega (arith, l.ends);
      }

  -- it lies on the track
  pub field_ends : first + n ≤ length t
  field_ends = here.ends

  module _ (h : How) (v : List ℕ) where
    told_is : report_of (search_turn h (sight (alone t) j v))
        ≡ report_at j j.task (pick (satisfied h (field_in t j) v) Satisfied Normal) (Transfer.Takes (length (field_in t j))) (wholly h (field_in t j) v)
    unfolding search_turn field_turn sight transfer_of
    told_is = ended (sight (alone t) j v) _ _ [] _

    pub search_tells : (x : Ordering) (w b : Bool) (e : Ending) (r : Report) → x ≡ comparison (bytes_of (part t first n)) v
        → w ≡ both (equal_only h) (both (leb n (length v)) b) → b ≡ satisfies_field h x n → e ≡ pick b Satisfied Normal
        → r ≡ report_at j j.task e (Transfer.Takes n) w → r ≡ report_of (search_turn h (sight (alone t) j v))
    unfolding satisfied wholly
    search_tells x w b e r a k l m o =
        let f = field_in t j in
        let long : n ≡ length f = sym (lying_long t f first n here) in
        let same : x ≡ comparison f v = a ∙ ap (λ (u : List ℕ). comparison u v) (sym here.there) in
        let found : b ≡ satisfied h f v = l ∙ (λ i. satisfies_field h (same i) (long i)) in
        let ending : e ≡ pick (satisfied h f v) Satisfied Normal = m ∙ ap (λ (u : Bool). pick u Satisfied Normal) found in
        let whole : w ≡ wholly h f v = k ∙ (λ i. both (equal_only h) (both (leb (long i) (length v)) (found i))) in
        o ∙ (λ i. report_at j j.task (ending i) (Transfer.Takes (long i)) (whole i)) ∙ sym told_is
