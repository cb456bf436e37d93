-- One command word on a pack and on the pack harmed. Under each head the track is the same or is the harmed one; where the word reads not that area the
-- two turns are one, where it reads it the word ends in Data Check (`claim_track:Struck`). Then how the channel ends a Data Check.
use Prim.Native.Nat.{ℕ, ◌+◌, ◌-◌, ◌*◌, min}
use mathlib.Core.Path.{◌≡◌, refl, sym, ap, ap₂, ◌∙◌, subst}
use mathlib.Core.Bool.{Bool, true, false, false≢true}
use mathlib.Core.List.{List}
use native.Mathlib.Omega.{arith}
use native.Mathlib.Decide.{ℕ_discrete}
use lib.Seq.{take-nil}
use lib.Dec.{eqb}
use borrow.Author.Tests.{eq-eqb, ne_eqb}
use Rattle.table.specs.Table.{is_write, rule_of}
use Rattle.cells.specs.Cells.{both, part, overlay, track_cells, marks}
use Rattle.cells.proofs.Laws.{overlay_none}
use Rattle.cells.proofs.Marks.{both_never}
use Rattle.cells.proofs.Tests.{second_of, second_picked}
use Rattle.rows.specs.declared.{Sense.Sense}
use Rattle.rows.specs.Rows.{sense_of, row_takes}
use Rattle.words.specs.declared.{Word.Word, Directive.Directive, Cause.Cause}
use Rattle.words.specs.Words.{chains, stored, status_for}
use Rattle.areas.specs.declared.{Part.Part, Area.Area}
use Rattle.areas.specs.Areas.{row_of}
use Rattle.pack.specs.declared.{Head.Head, Shape.Shape}
use Rattle.pack.specs.Pack.{track_no, start_of}
use Rattle.held.specs.declared.{Position.Position, Orders.Orders, Channel.Channel, Held.Held}
use Rattle.held.specs.Held.{rested}
use Rattle.turn.specs.Turn.{with_sense, TrackArea, Piece, given, transfer_of, wants, Turn, report_of, is_check, check_turn}
use Rattle.channel.specs.Channel.{unit_status, ends_well, fetched, placed, bytes_moved, moves_any, length_counts, wrong_length, goes_on, held_after, status_after, with_status, storage_after, World, world, stops}
use Rattle.command.specs.Command.{SelectedOn}
use Rattle.command.proofs.Turns.{only_writes-lay}
use Rattle.chain.specs.Step.{under, track_under, next, tracks_of, lay_on, turn_of, settled, obeyed, step_by, step, tested_reads, word_reads, tested_writes, Legal}
use Rattle.chain.proofs.Fits.{selected_on, ordered}
use Rattle.claim_track.specs.Damage.{any, same_area}
use Rattle.claim_track.proofs.Hurts.{Hurt, damaged_hurt, same_hurt, same_area_lem}
use Rattle.claim_track.proofs.Struck.{lies, command-spared, command_struck}
use Rattle.claim_box.proofs.Outside.{apart, same_track}
use Rattle.claim_box.specs.Demand3.{track, Harmed, next_writes, is_it, reads_it, Alike, data_check, DataChecked}
use Rattle.std.specs.Prelude.{Ok, Err, Result}
use Rattle.words.specs.declared.Directive.TheVariants.{Obey, Jump}

-- ---- how the channel ends a Data Check: no byte was moved, and the chain is at its end

part-row : (p : Part) → (sense_of (row_of p) ≡ data_check p) × (row_takes (row_of p) ≡ 0)
unfolding sense_of row_of data_check row_takes
part-row Part.Home = (refl, refl)
part-row Part.Count = (refl, refl)
part-row Part.Key = (refl, refl)
part-row Part.Data = (refl, refl)

module _ (s : Position) (o : Orders) (r : List TrackArea) (d : Word) (p : Part) (c : Channel) where
  abbrev failed : Turn
  failed = check_turn s o r (row_of p)

  fails_ends : goes_on d (report_of failed) ≡ false
  unfolding goes_on wrong_length length_counts moves_any transfer_of is_check ends_well check_turn report_of
  fails_ends = both_never (chains d)

  pub fails_held : held_after c d (report_of failed) ≡ rested (with_sense s (data_check p))
  unfolding held_after report_of check_turn
  fails_held = second_picked _ _ _ fails_ends ∙ ap (λ (x : Sense). rested (with_sense s x)) (part-row p).0

  pub fails_storage : (st : List ℕ) → storage_after c d failed st ≡ stored st (status_for c.key c.next 0x0E 0x00 d.count)
  unfolding storage_after with_status status_after placed given unit_status wrong_length length_counts moves_any bytes_moved wants transfer_of is_check check_turn report_of
  fails_storage st =
      let same = ap (overlay st d.address) (take-nil d.count) ∙ overlay_none st d.address in
      let all : d.count - min d.count (row_takes (row_of p)) ≡ d.count = omega (arith, (part-row p).1) in
      second_picked _ _ _ fails_ends ∙ ap₂ (λ (y : List ℕ) (k : ℕ). stored y (status_for c.key c.next 0x0E 0x00 k)) same all

-- ---- the tracks

module _ (n s : ℕ) (x : Area) (c c' : List ℕ) (harm : Harmed n s x c c') where
  -- every other track is the same
  other_track : (m : ℕ) → (n ≡ m → ⊥) → track c m ≡ track c' m
  other_track m d = sym (same_track c c' m harm.long (λ i h. harm.elsewhere (m * track_cells + i) (apart m n i (λ e. d (sym e)) h)))

  -- and track n is hurt in that area
  track_hurt : (m : ℕ) → Hurt (λ (a : Area). both (eqb n m) (same_area x a)) (track c m) (track c' m)
  track_hurt m = go (ℕ_discrete n m)
    where
      go : Dec (n ≡ m) → Hurt (λ (a : Area). both (eqb n m) (same_area x a)) (track c m) (track c' m)
      go (yes e) =
          subst (λ (b : Bool). Hurt (λ (a : Area). both b (same_area x a)) (track c m) (track c' m)) (sym (eq-eqb n m e))
          (subst (λ (k : ℕ). Hurt (same_area x) (track c k) (track c' k)) e (damaged_hurt s x _ _ harm.sound harm.own harm.damaged))
      go (no d) = same_hurt _ _ _ (λ a. ap (λ (b : Bool). both b (same_area x a)) (ne_eqb n m d)) (other_track m d)

  pub marks_same : (m : ℕ) → marks (track c m) ≡ marks (track c' m)
  marks_same m = (track_hurt m).marked

  -- ---- a word from one held state and storage

  module _ (g : Shape) (h : Held) (st : List ℕ) where
    abbrev it : TrackArea → Bool
    it = is_it g n x h.position.cylinder

    hurts : (k : Head) → Hurt (λ (a : Area). it (lies k a)) (tracks_of g c h.position.cylinder k) (tracks_of g c' h.position.cylinder k)
    unfolding is_it tracks_of start_of
    hurts k = track_hurt (track_no g h.position.cylinder k)

    module _ (sel : SelectedOn (marks (tracks_of g c h.position.cylinder h.position.head)) h.orders.selection) where
      module _ (d : Word) (q : is_write (rule_of d.code).act ≡ false) where
        still : (cells : List ℕ) → lay_on g h.position.cylinder (turn_of g (world h st cells) d).lays cells ≡ cells
        unfolding turn_of lay_on
        still cells = ap (λ (l : List Piece). lay_on g h.position.cylinder l cells) (only_writes-lay g _ h.position h.orders d.code (fetched st d) q)

        obeyed-kept : any it (turn_of g (world h st c) d).reads ≡ false → Alike c c' (obeyed g (world h st c) d) (obeyed g (world h st c') d)
        unfolding obeyed settled turn_of
        obeyed-kept e =
            let r = sym (command-spared it _ _ hurts g h.position h.orders d.code (fetched st d) sel q e) in
            record {
              held = ap (λ (y : Turn). held_after h.channel d (report_of y)) r;
              storage = ap (λ (y : Turn). storage_after h.channel d y st) r;
              mine = still c;
              theirs = still c';
            }

        obeyed_broken : next (world h st c') ≡ Ok (Obey d) → any it (turn_of g (world h st c) d).reads ≡ true → DataChecked x (world h st c') (obeyed g (world h st c') d)
        unfolding obeyed settled turn_of is_it
        obeyed_broken u e =
            let r = command_struck it _ _ hurts g h.position h.orders d.code (fetched st d) sel e in
            let p = same_area_lem x r.0 (second_of (eqb n _) _ r.1) in
            record {
              word = d;
              given = u;
              held = ap (λ (y : Turn). held_after h.channel d (report_of y)) r.3 ∙ fails_held h.position h.orders r.2 d r.0.part h.channel
                  ∙ ap (λ (a : Area). rested (with_sense h.position (data_check a.part))) (sym p);
              storage = ap (λ (y : Turn). storage_after h.channel d y st) r.3 ∙ fails_storage h.position h.orders r.2 d r.0.part h.channel st;
              cells = still c';
            }

      takes_kept : (y : Result Directive Cause) → tested_writes y ≡ false → any it (tested_reads g (world h st c) y) ≡ false → Alike c c' (step_by g (world h st c) y) (step_by g (world h st c') y)
      unfolding step_by tested_writes tested_reads stops
      takes_kept (Ok (Obey d)) q e = obeyed-kept d q e
      takes_kept (Ok (Jump a)) q e = record { held = refl; storage = refl; mine = refl; theirs = refl }
      takes_kept (Err cause) q e = record { held = refl; storage = refl; mine = refl; theirs = refl }

      takes_broken : (y : Result Directive Cause) → next (world h st c') ≡ y → tested_writes y ≡ false → any it (tested_reads g (world h st c) y) ≡ true
          → DataChecked x (world h st c') (step_by g (world h st c') y)
      unfolding step_by tested_writes tested_reads any
      takes_broken (Ok (Obey d)) u q e = obeyed_broken d q u e
      takes_broken (Ok (Jump a)) u q e = absurd (false≢true e)
      takes_broken (Err cause) u q e = absurd (false≢true e)

  -- ---- a word from two worlds that are alike

  module _ (g : Shape) (w v : World) (k : Alike c c' w v) where
    pub w_is : w ≡ world w.held w.storage c
    w_is = λ i. record { held = w.held; storage = w.storage; cells = k.mine i }

    pub v_is : v ≡ world w.held w.storage c'
    v_is = λ i. record { held = k.held i; storage = k.storage i; cells = k.theirs i }

    module _ (L : Legal g w) (q : next_writes w ≡ false) where
      sel : SelectedOn (marks (tracks_of g c w.held.position.cylinder w.held.position.head)) w.held.orders.selection
      unfolding tracks_of
      sel = selected_on _ w.held.orders (unfold track_under under in ordered g _ (subst (Legal g) w_is L))

      pub step_kept : reads_it g n x w ≡ false → Alike c c' (step g w) (step g v)
      unfolding next_writes reads_it word_reads step next
      step_kept e = rw (w_is, v_is) (takes_kept g w.held w.storage sel _ q (rw w_is at e))

      pub step_broken : reads_it g n x w ≡ true → DataChecked x v (step g v)
      unfolding next_writes reads_it word_reads step next
      step_broken e = rw v_is (takes_broken g w.held w.storage sel _ refl q (rw w_is at e))
