-- A key that could not be read before an 05 cannot be read after it, and a read that names it ends in Data Check. Why: an 05 changes no cell of the key, nor
-- of the count, which it read first.
use Prim.Native.Nat.{ℕ, ◌*◌, ◌<◌}
use mathlib.Core.Path.{◌≡◌, refl, sym, ap, ◌∙◌, subst}
use mathlib.Core.Bool.{Bool, true, false}
use mathlib.Core.List.{List}
use Rattle.cells.specs.Cells.{track_cells, marks}
use Rattle.words.specs.declared.{Word.Word}
use Rattle.areas.specs.declared.{Counts.Counts, Part.Part}
use Rattle.areas.specs.Areas.{count_area, counts_at, key_area, readable}
use Rattle.hunt.specs.Hunt.{count_first}
use Rattle.pack.specs.declared.{Shape.Shape}
use Rattle.pack.specs.Pack.{track_at}
use Rattle.held.specs.declared.{Position.Position, Orders.Orders}
use Rattle.table.specs.declared.{Write.Write}
use Rattle.table.specs.Table.{rule_of}
use Rattle.turn.specs.Turn.{Tracks, Turn, lay, check_turn}
use Rattle.command.specs.Command.{marks_of}
use Rattle.channel.specs.Channel.{fetched, World}
use Rattle.chain.specs.Step.{under, track_under, tracks_of, lay_on, turn_of, settled, obeyed, step_by, step}
use Rattle.claim_box.specs.Confined.{track_on}
use Rattle.claim_box.specs.Demand3.{DataChecked}
use Rattle.claim_box.proofs.Stepped.{fails_held, fails_storage}
use Rattle.claim_back.specs.Back.{OnRecord, selected, left_by, taken_by, names_key, counts_on, Since, counts_there, Wrote, Rereads, KeyUnreadable}
use Rattle.claim_back.proofs.Plans.{NamesCount, record_plan, record_named}
use Rattle.claim_back.proofs.Given.{key_checked}
use Rattle.claim_back.proofs.Left.{track-left, count_same, count-readable, key_same}
use Rattle.claim_back.proofs.After.{track-kept}
use Rattle.claim_back.proofs.Again.{track_same}

module _ (g : Shape) (w : World) (d : Word) (K : KeyUnreadable g w) where
  abbrev c : ℕ
  c = count_first K.spot

  abbrev n : Counts
  n = counts_at (track_under g w) c

  -- by the count of the record selected
  there : counts_there g w ≡ n
  unfolding counts_on
  there = ap (counts_on (track_under g w)) K.is

  some : 0 < n.kl
  some = subst (λ (m : Counts). 0 < m.kl) there K.some

  module _ (W : Wrote g w d (Write.Update false)) where
    stays_there : readable (lay (turn_of g w d).lays (track_under g w)) (key_area c n) ≡ false
    stays_there = key_same g w d W K.spot K.is some ∙ ap (λ (m : Counts). readable (track_under g w) (key_area c m)) (sym there) ∙ K.unreadable

    pub stays : (u : World) → Since g (track_on g w) (step g w) u
        → readable (track_at u.cells (track_on g w * track_cells)) (key_area c (counts_there g w)) ≡ false
    stays u s =
        let same = (track-kept g (track_on g w) (step g w) u s).0 ∙ track-left g w W.legal d W.word in
        (λ i. readable (same i) (key_area c (there i))) ∙ stays_there

  module _ (u : World) (e : Word) (counted : Bool) (R : Rereads g w d (Write.Update false) u e counted) where
    abbrev s : Position
    s = u.held.position

    abbrev o : Orders
    o = u.held.orders

    abbrev tr : Tracks
    tr = tracks_of g u.cells s.cylinder

    taken : taken_by (rule_of e.code).aim (marks (track_under g u)) s o ≡ OnRecord K.spot
    unfolding left_by selected
    taken = R.takes ∙ ap selected K.is

    pub key_lost : names_key (rule_of e.code).names ≡ true → DataChecked (key_area c (counts_there g w)) u (step g u)
    unfolding turn_of track_under under tracks_of marks_of check_turn names_key key_area step step_by obeyed settled lay_on
    key_lost names =
        let W : Wrote g w d (Write.Update false) = R.wrote in
        let N : NamesCount (rule_of e.code).names = record_named e.code counted R.act (marks_of tr) s o K.spot taken in
        let same = track_same g w d (Write.Update false) u e counted R in
        let is = key_checked g tr s o e.code (fetched u.storage e) _ (record_plan e.code counted R.act (marks_of tr) s o K.spot taken)
        counted R.act N n
        (ap (λ (t : List ℕ). readable t (count_area c)) same ∙ count-readable g w d W K.spot K.is)
        (ap (λ (t : List ℕ). counts_at t c) same ∙ count_same g w d W K.spot K.is)
        (sym (ap names_key N.is) ∙ names) some (ap (λ (t : List ℕ). readable t (key_area c n)) same ∙ stays_there W) in
        let steps = ap (step_by g u) R.word ∙ ap (settled g u e) is in
        subst (DataChecked (key_area c (counts_there g w)) u) (sym steps)
        (record {
          word = e;
          given = R.word;
          held = fails_held s o _ e Part.Key u.held.channel;
          storage = fails_storage s o _ e Part.Key u.held.channel u.storage;
          cells = refl;
        })
