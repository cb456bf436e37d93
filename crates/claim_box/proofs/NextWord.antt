-- What the next word changes: its command changes the track under the head and no other; its bytes are stored, and the status word where the chain
-- ends.
use Prim.Native.Nat.{ℕ, ◌+◌, ◌-◌, ◌<◌, ◌≤◌}
use mathlib.Core.Path.{◌≡◌, refl, sym, ap, ◌∙◌, subst}
use mathlib.Core.Bool.{Bool, true, false, not}
use mathlib.Core.List.{List}
use native.Mathlib.Omega.{arith}
use lib.ListN.{length, get_or, length-take}
use Rattle.cells.specs.Cells.{pick, both, overlay, track_cells}
use Rattle.cells.proofs.Laws.{get_or-part, length-overlay, overlay_same}
use Rattle.rows.specs.declared.{Row.Row}
use Rattle.words.specs.declared.{Word.Word, Status.Status, Directive.Directive, Cause.Cause}
use Rattle.words.specs.Words.{status_at, status_bytes, stored}
use Rattle.words.proofs.Obeys.{TestedIn, tested_in}
use Rattle.pack.specs.declared.{Shape.Shape}
use Rattle.pack.specs.Pack.{track_at, with_track}
use Rattle.pack.proofs.Laws.{others_kept}
use Rattle.turn.specs.declared.Ending.TheVariants.{Check}
use Rattle.table.specs.Table.{rule_of}
use Rattle.turn.specs.Turn.{Turn, given, report_of, lay}
use Rattle.channel.specs.Channel.{fetched, placed, bytes_moved, goes_on, status_after, with_status, storage_after, World, stops}
use Rattle.chain.specs.Step.{under, track_under, next, tracks_of, turn_of, settled, obeyed, step_by, step, Legal}
use Rattle.chain.proofs.Legal.{inside, track_whole, turn-left, put_back, step_sizes}
use Rattle.claim_box.specs.Confined.{among, may_change, may_store, track_after, CommandConfined, word_changes, changes, in_status, word_stores, stores, StepConfined}
use Rattle.claim_box.proofs.Outside.{pick_by, neither, out_of, out_test, in_between, overlay-kept, overlay_inside, put_found}
use Rattle.claim_box.proofs.Commands.{command_confined}
use Rattle.std.specs.Prelude.{Ok, Err, Result}
use Rattle.words.specs.declared.Directive.TheVariants.{Obey, Jump}

-- the status word
pub stored-kept : (s : List ℕ) (x : Status) (i : ℕ) → status_at ≤ length s → in_status i ≡ false → get_or (stored s x) i 0 ≡ get_or s i 0
unfolding stored
stored-kept s x i h e = overlay-kept s status_at (status_bytes x) i h e

-- bytes placed
pub placed_long : (s : List ℕ) (d : Word) (v : List ℕ) → d.address + d.count ≤ length s → length (placed s d v) ≡ length s
unfolding placed
placed_long s d v r = length-overlay s d.address _ (omega (arith, length-take d.count v, r))

-- off the track under the head
pub none_elsewhere : (g : Shape) (w : World) (x : Result Directive Cause) (i : ℕ) → among (under g w.held) track_cells i ≡ false → word_changes g w i x ≡ false
unfolding word_changes
none_elsewhere g w (Ok (Obey d)) i e =
    ap (λ (b : Bool). both b (may_change (rule_of d.code) w.held.orders (track_under g w) (i - under g w.held))) e
none_elsewhere g w (Ok (Jump a)) i e = refl
none_elsewhere g w (Err cause) i e = refl

module _ (g : Shape) (w : World) (L : Legal g w) where
  abbrev start : ℕ
  start = under g w.held

  -- ---- the pack with a track put back: the cells of the others, and a cell that the track keeps

  module _ (u : List ℕ) (long : length u ≡ track_cells) (i : ℕ) where
    put_same : among start track_cells i ≡ true → get_or u (i - start) 0 ≡ get_or (track_under g w) (i - start) 0
        → get_or (with_track w.cells start u) i 0 ≡ get_or w.cells i 0
    unfolding with_track track_under track_at
    put_same e k =
        let b = in_between start track_cells i e in
        let at : start + (i - start) ≡ i = omega (arith, b.0) in
        let j : i - start < 4096 = omega (arith, b.0, b.1) in
        ap (λ (m : ℕ). get_or (overlay w.cells start u) m 0) (sym at)
        ∙ overlay_inside w.cells start u (i - start) (omega (arith, long, inside g w L)) (omega (arith, long)) ∙ k
        ∙ get_or-part w.cells start 4096 (i - start) j ∙ ap (λ (m : ℕ). get_or w.cells m 0) at

    put_kept : (f : ℕ → Bool) → ((j : ℕ) → f j ≡ false → get_or u j 0 ≡ get_or (track_under g w) j 0) → both (among start track_cells i) (f (i - start)) ≡ false
        → get_or (with_track w.cells start u) i 0 ≡ get_or w.cells i 0
    put_kept f kept =
        pick_by (λ (b : Bool). b ≡ false → get_or (with_track w.cells start u) i 0 ≡ get_or w.cells i 0) (among start track_cells i)
        (λ p e. put_same p (kept (i - start) e)) (λ p e. others_kept w.cells u start i long (inside g w L) (out_of start track_cells i p))

  -- ---- a word that is obeyed

  module _ (d : Word) (r : d.address + d.count ≤ length w.storage) where
    abbrev x : Turn
    x = turn_of g w d

    confined : CommandConfined g (tracks_of g w.cells w.held.position.cylinder) w.held.position w.held.orders d.code (fetched w.storage d)
    unfolding track_under tracks_of under
    confined = command_confined g _ _ _ _ _ (track_whole g w L)

    back : (obeyed g w d).cells ≡ with_track w.cells start (lay x.lays (track_under g w))
    unfolding obeyed settled
    back = put_back g w L d x (turn-left g w L d) (record { area = r })

    -- the track under the head, found again where it was put
    pub track-left : track_at (obeyed g w d).cells start ≡ lay x.lays (track_under g w)
    unfolding track_under tracks_of under turn_of track_after
    track-left =
        ap (λ (c : List ℕ). track_at c start) back ∙ put_found w.cells _ start (confined.long ∙ (track_whole g w L).long) (inside g w L)

    obeyed_cells : (i : ℕ) → word_changes g w i (Ok (Obey d)) ≡ false → get_or (obeyed g w d).cells i 0 ≡ get_or w.cells i 0
    unfolding word_changes track_under tracks_of under turn_of track_after
    obeyed_cells i e =
        ap (λ (c : List ℕ). get_or c i 0) back ∙ put_kept _ (confined.long ∙ (track_whole g w L).long) i _ confined.cells e

    obeyed_checks : (row : Row) → x.ending ≡ Check row → (obeyed g w d).cells ≡ w.cells
    unfolding track_under tracks_of under turn_of track_after with_track track_at
    obeyed_checks row e = back ∙ ap (with_track w.cells start) (confined.checks row e) ∙ overlay_same w.cells start track_cells (inside g w L)

    abbrev st' : List ℕ
    st' = placed w.storage d (given x.moves)

    put_long : length st' ≡ length w.storage
    put_long = placed_long w.storage d (given x.moves) r

    obeyed_storage : (i : ℕ) → word_stores g w i (Ok (Obey d)) ≡ false → get_or (obeyed g w d).storage i 0 ≡ get_or w.storage i 0
    unfolding word_stores obeyed settled storage_after with_status turn_of
    obeyed_storage i e =
        let n = neither (may_store (rule_of d.code).act d (bytes_moved d (report_of x)) i) (both (not (goes_on d (report_of x))) (in_status i)) e in
        go (goes_on d (report_of x)) n.1 ∙ confined.storage d w.storage r i n.0
      where
        go : (b : Bool) → both (not b) (in_status i) ≡ false
            → get_or (pick b st' (stored st' (status_after w.held.channel d (report_of x)))) i 0 ≡ get_or st' i 0
        go true f = refl
        go false f = stored-kept st' _ i (omega (arith, put_long, L.room)) f

  -- ---- any word

  takes_cells : (x : Result Directive Cause) → TestedIn w.storage x → (i : ℕ) → word_changes g w i x ≡ false → get_or (step_by g w x).cells i 0 ≡ get_or w.cells i 0
  unfolding step_by stops
  takes_cells (Ok (Obey d)) r i e = obeyed_cells d r i e
  takes_cells (Ok (Jump a)) r i e = refl
  takes_cells (Err cause) r i e = refl

  takes_storage : (x : Result Directive Cause) → TestedIn w.storage x → (i : ℕ) → word_stores g w i x ≡ false
      → get_or (step_by g w x).storage i 0 ≡ get_or w.storage i 0
  unfolding step_by stops word_stores
  takes_storage (Ok (Obey d)) r i e = obeyed_storage d r i e
  takes_storage (Ok (Jump a)) r i e = refl
  takes_storage (Err cause) r i e = stored-kept w.storage _ i (omega (arith, L.room)) e

  in_storage : TestedIn w.storage (next w)
  unfolding next
  in_storage = tested_in w.storage w.held.channel.next w.held.channel.after_tic

  checks_by : (d : Word) (x : Result Directive Cause) → TestedIn w.storage x → x ≡ Ok (Obey d) → (row : Row) → (turn_of g w d).ending ≡ Check row
      → (step_by g w x).cells ≡ w.cells
  unfolding step_by
  checks_by d x r e row f = ap (λ (y : Result Directive Cause). (step_by g w y).cells) e ∙ obeyed_checks d (subst (TestedIn w.storage) e r) row f

  pub step_confined : StepConfined g w
  unfolding step changes stores next
  step_confined = record {
    cells = λ i e. takes_cells (next w) in_storage i e;
    elsewhere = λ i o. takes_cells (next w) in_storage i (none_elsewhere g w (next w) i (out_test start track_cells i o));
    checks = λ d e row f. checks_by d (next w) in_storage e row f;
    long = (step_sizes g w L).cells;
    storage_long = (step_sizes g w L).storage;
    storage = λ i e. takes_storage (next w) in_storage i e;
  }
