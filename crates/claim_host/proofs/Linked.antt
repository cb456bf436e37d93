-- Cutting, confinement, demand 3 and soundness, of the calls on lent bytes: by what the bytes say. If they say a held state, the call is the model's
-- (`Says`), of which each was proved; if they say none, it refuses and changes nothing. What a host brings between calls leaves the cells as they are.
use Prim.Native.Nat.{ℕ, ◌+◌, ◌*◌}
use mathlib.Core.Path.{◌≡◌, refl, sym, ap, ◌∙◌, subst}
use mathlib.Core.Bool.{Bool, true}
use mathlib.Core.List.{List, [], ◌∷◌}
use native.Mathlib.Omega.{arith}
use lib.ListN.{length, get_or}
use Rattle.cells.specs.Cells.{both, track_cells}
use Rattle.cells.proofs.Tests.{first_of, second_of}
use Rattle.words.specs.Words.{tested, stored, status_for}
use Rattle.areas.specs.declared.{Area.Area}
use Rattle.pack.specs.declared.{Shape.Shape}
use Rattle.held.specs.declared.{Held.Held}
use Rattle.held.specs.Held.{encoded, kept, rested}
use Rattle.held.proofs.Inverse.{kept-encoded, length-encoded, kept_in_range}
use Rattle.channel.specs.Channel.{World, world}
use Rattle.turn.specs.Turn.{with_sense}
use Rattle.chain.specs.Step.{next, run}
use Rattle.host.specs.declared.{Answer.Answer}
use Rattle.host.specs.declared.Answer.TheVariants.{ChainEnded, AllowanceUsed, BadStorage, BadPack, BadHeld, BadStart, NoChain, ChainGoing}
use Rattle.host.specs.Host.{Hears, guard_of, if_passes, answer_no, wrong_held, goes}
use Rattle.host.proofs.Cut.{cut_used, cut_else}
use Rattle.box_export.specs.Calls.{Call, call, call_of}
use Rattle.box_export.proofs.Laws.{kept_long}
use Rattle.claim_box.specs.Boxes.{all_under}
use Rattle.claim_box.specs.Confined.{CallConfined}
use Rattle.claim_box.specs.Demand3.{track, Harmed, HostCall, start, go, hear, heard, left, spared, spared_call, spared_calls, Agrees, AllAgree, FirstReads, EndsThere, data_check, Demand3}
use Rattle.claim_box.specs.Demand3 as Told
use Rattle.claim_box.proofs.Confined.{all_confined}
use Rattle.claim_box.proofs.Demand3 as Proved
use Rattle.claim_sound.specs.Soundness.{InBytes, known_call, known_calls, Known, home_kept}
use Rattle.claim_sound.proofs.Soundness.{soundness_lasts}
use Rattle.claim_sound.proofs.Soundness as Lasting
use Rattle.claim_sound.proofs.Bytes.{under-bytes}
use Rattle.claim_host.specs.Linked.{link, links, linked_to, if_held, world_by, if_runs, if_run, if_all_run, used, LinkCut, LinkConfined, LinkAgrees, AllLinksAgree, none, more, spared_links, LinkFirst, LinkEnds, with_cells, LinkDemand3, Deed, calls, brings, deed, deeds, LentBytes, brought_bytes, known_deed, known_deeds, home_spared, homes_spared, Linked}
use Rattle.claim_host.proofs.Says.{by_kept, refused, Says, link_holds, link_wrong, link_says, left_says, left_wrong}
use Rattle.std.specs.Prelude.{Some, None, Option}

-- ---- answers by their numbers

used_is : (a : Answer) → answer_no a ≡ used → a ≡ AllowanceUsed
unfolding answer_no
used_is ChainEnded e = absurd (omega (arith, e))
used_is AllowanceUsed e = refl
used_is BadStorage e = absurd (omega (arith, e))
used_is BadPack e = absurd (omega (arith, e))
used_is BadHeld e = absurd (omega (arith, e))
used_is BadStart e = absurd (omega (arith, e))
used_is NoChain e = absurd (omega (arith, e))
used_is ChainGoing e = absurd (omega (arith, e))

module _ (g : Shape) where
  -- ---- cutting

  module _ (a b : ℕ) (x : Call) where
    module _ (h : Held) (e : kept x.held ≡ Some h) where
      abbrev w : World
      w = world_by x h

      one : (n : ℕ) → link g (go n) x ≡ call_of (goes g n w)
      unfolding hear
      one n = link_holds g (go n) x h e

      then : link g (go b) (link g (go a) x) ≡ call_of (goes g b (goes g a w).left)
      unfolding hear linked_to left
      then = link_says g (go b) (link g (go a) x) (goes g a w).left (left_says g (go a ∷ []) x w (record { held = e; same = refl }))

      answers : (link g (go a) x).answer ≡ answer_no (goes g a w).answer
      unfolding call_of
      answers = ap (λ (y : Call). y.answer) (one a)

    cuts : LinkCut g a b x
    cuts = record {
      cut_used = λ u. by_kept x.held _
          (λ h e.
          then h e ∙ ap call_of (cut_used g a b (world_by x h) (used_is _ (sym (answers h e) ∙ u))) ∙ sym (one h e (a + b)))
          (λ e. ap (link g (go b)) (link_wrong g (go a) x e) ∙ link_wrong g (go b) (refused g x) e ∙ sym (link_wrong g (go (a + b)) x e));
      cut_else = λ u. by_kept x.held _
          (λ h e.
          one h e (a + b) ∙ ap call_of (cut_else g a b (world_by x h) (λ q. u (answers h e ∙ ap answer_no q))) ∙ sym (one h e a))
          (λ e. link_wrong g (go (a + b)) x e ∙ sym (link_wrong g (go a) x e));
    }

  -- ---- confinement

  module _ (n : ℕ) (x : Call) where
    C : (h : Held) → CallConfined g n (world_by x h)
    C h = (all_confined g).call n (world_by x h)

    -- a test of the words that run, by what the bytes say
    runs_by : (f : World → Bool) (h : Held) → kept x.held ≡ Some h → if_runs g x f ≡ true → if_passes (guard_of g (world_by x h)) (f (world_by x h)) ≡ true
    unfolding if_runs if_held
    runs_by f h e q = sym (ap (λ (k : Option Held). if_held k (λ (y : Held). if_passes (guard_of g (world_by x y)) (f (world_by x y))) true) e) ∙ q

    -- what holds of the call: by the model's, or of what was lent
    of_call : (k : HostCall) (P : Call → Type 0) → ((h : Held) → kept x.held ≡ Some h → P (call_of (hear g k (world_by x h)))) → P (refused g x) → P (link g k x)
    of_call k P f r = by_kept x.held _ (λ h e. subst P (sym (link_holds g k x h e)) (f h e)) (λ e. subst P (sym (link_wrong g k x e)) r)

    call_long : (k : HostCall) (h : Held) → length (hear g k (world_by x h)).left.cells ≡ length x.cells
    unfolding hear
    call_long start h = ap length (C h).start_cells
    call_long (go m) h = ((all_confined g).call m (world_by x h)).long

    call_storage : (k : HostCall) (h : Held) → length (hear g k (world_by x h)).left.storage ≡ length x.storage
    unfolding hear
    call_storage start h = (C h).start_long
    call_storage (go m) h = ((all_confined g).call m (world_by x h)).storage_long

    confined : LinkConfined g n x
    unfolding call_of hear
    confined = record {
      cells = λ i q. of_call (go n) (λ (y : Call). get_or y.cells i 0 ≡ get_or x.cells i 0) (λ h e. (C h).cells i (runs_by _ h e q)) refl;
      on_track_lem = λ m i j q.
          of_call (go n) (λ (y : Call). get_or y.cells (m * track_cells + i) 0 ≡ get_or x.cells (m * track_cells + i) 0)
          (λ h e. (C h).track m i j (runs_by _ h e q)) refl;
      undone = λ m q. of_call (go n) (λ (y : Call). track y.cells m ≡ track x.cells m) (λ h e. (soundness_lasts g).same_go m n (world_by x h) (runs_by _ h e q)) refl;
      storage = λ i q. of_call (go n) (λ (y : Call). get_or y.storage i 0 ≡ get_or x.storage i 0) (λ h e. (C h).storage i (runs_by _ h e q)) refl;
      start_cells = of_call start (λ (y : Call). y.cells ≡ x.cells) (λ h e. (C h).start_cells) refl;
      start_else = λ q. by_kept x.held _
          (λ h e.
          let r = link_holds g start x h e in
          ap (λ (y : Call). y.storage) r ∙ (C h).start_else (λ p. q (ap (λ (y : Call). y.answer) r ∙ ap answer_no p)))
          (λ e. ap (λ (y : Call). y.storage) (link_wrong g start x e));
      start_storage = λ i q. of_call start (λ (y : Call). get_or y.storage i 0 ≡ get_or x.storage i 0) (λ h e. (C h).start_storage i q) refl;
      long = λ k. of_call k (λ (y : Call). length y.cells ≡ length x.cells) (λ h e. call_long k h) refl;
      storage_long = λ k. of_call k (λ (y : Call). length y.storage ≡ length x.storage) (λ h e. call_storage k h) refl;
      held_long = λ k. of_call k (λ (y : Call). length y.held ≡ length x.held) (λ h e. length-encoded _ ∙ sym (kept_long x.held h e)) refl;
      wrong = λ k e. link_wrong g k x e;
    }

  -- ---- the words of calls, told on lent bytes and on the world that they say

  module _ (f : ℕ → World → Bool) where
    -- of a call, and of calls, in the model
    abbrev ran_in : HostCall → World → Bool
    ran_in start w = true
    ran_in (go n) w = if_passes (guard_of g w) (f n w)

    abbrev all_ran : List HostCall → World → Bool
    all_ran [] w = true
    all_ran (k ∷ ks) w = both (ran_in k w) (all_ran ks (hear g k w).left)

    ran_says : (k : HostCall) (x : Call) (w : World) → Says x w → if_run g f k x ≡ ran_in k w
    unfolding if_run if_runs if_held
    ran_says start x w s = refl
    ran_says (go n) x w s =
        ap (λ (k : Option Held). if_held k (λ (h : Held). if_passes (guard_of g (world_by x h)) (f n (world_by x h))) true) s.held
        ∙ ap (λ (v : World). if_passes (guard_of g v) (f n v)) s.same

    all_says : (ks : List HostCall) (x : Call) (w : World) → Says x w → if_all_run g f ks x ≡ all_ran ks w
    unfolding if_all_run linked_to left
    all_says [] x w s = refl
    all_says (k ∷ ks) x w s =
        ap (λ (b : Bool). both b (if_all_run g f ks (link g k x))) (ran_says k x w s)
        ∙ ap (both (ran_in k w)) (all_says ks (link g k x) (hear g k w).left (left_says g (k ∷ []) x w s))

  -- as the model has it
  spared_are : (n : ℕ) (x : Area) (ks : List HostCall) (w : World) → all_ran (spared g n x) ks w ≡ spared_calls g n x ks w
  unfolding spared_calls spared_call
  spared_are n x [] w = refl
  spared_are n x (start ∷ ks) w = spared_are n x ks (hear g start w).left
  spared_are n x (go k ∷ ks) w = ap (both (if_passes (guard_of g w) (spared g n x k w))) (spared_are n x ks (hear g (go k) w).left)

  -- ---- demand 3

  holds_not : (h : Held) → Some h ≡ None → ⊥
  holds_not h e = let z : ◌≡◌ {A = ℕ} 0 1 = cc in omega arith

  held_is : (h k : Held) → Some h ≡ Some k → h ≡ k
  held_is h k e = cc

  module _ (n s : ℕ) (x : Area) (c c' : List ℕ) (harm : Harmed n s x c c') where
    D : Demand3 g n x c c'
    D = Proved.demand_3 g n s x c c' harm

    -- what agrees in the model agrees in bytes
    agrees-call : (p q : Hears) → Agrees c c' p q → LinkAgrees c c' (call_of p) (call_of q)
    unfolding call_of
    agrees-call p q r = record {
      answer = ap answer_no r.answer;
      held = ap encoded r.left.held;
      storage = r.left.storage;
      mine = r.left.mine;
      theirs = r.left.theirs;
    }

    both_agree : (ks : List HostCall) (y y' : Call) (w v : World) → Says y w → Says y' v → AllAgree c c' (heard g ks w) (heard g ks v)
        → AllLinksAgree c c' (links g ks y) (links g ks y')
    unfolding heard links linked_to left
    both_agree [] y y' w v p q a = none
    both_agree (k ∷ ks) y y' w v p q (Told.more r rest) =
        more
        (subst (λ (z : Call). LinkAgrees c c' z (link g k y')) (sym (link_says g k y w p))
        (subst (LinkAgrees c c' (call_of (hear g k w))) (sym (link_says g k y' v q)) (agrees-call _ _ r)))
        (both_agree ks _ _ _ _ (left_says g (k ∷ []) y w p) (left_says g (k ∷ []) y' v q) rest)

    -- both are refused alike
    wrong_agree : (ks : List HostCall) (v st : List ℕ) (a a' : ℕ) → kept v ≡ None → AllLinksAgree c c' (links g ks (call a v st c)) (links g ks (call a' v st c'))
    unfolding links
    wrong_agree [] v st a a' e = none
    wrong_agree (k ∷ ks) v st a a' e =
        subst (λ (z : Call). AllLinksAgree c c' (z ∷ links g ks z) (link g k (call a' v st c') ∷ links g ks (link g k (call a' v st c')))) (sym (link_wrong g k (call a v st c) e))
        (subst (λ (z : Call). AllLinksAgree c c' (refused g (call a v st c) ∷ links g ks (refused g (call a v st c))) (z ∷ links g ks z)) (sym (link_wrong g k (call a' v st c') e))
        (more (record { answer = ap (λ (m : ℕ). answer_no (wrong_held g (length st) m)) harm.long; held = refl; storage = refl; mine = refl; theirs = refl })
        (wrong_agree ks v st _ _ e)))

    module _ (a : ℕ) (v st : List ℕ) (ks : List HostCall) (q : spared_links g n x ks (call a v st c) ≡ true) where
      spared_by : (h : Held) → kept v ≡ Some h → spared_calls g n x ks (world h st c) ≡ true
      unfolding spared_links
      spared_by h e =
          sym (spared_are n x ks (world h st c)) ∙ sym (all_says (spared g n x) ks (call a v st c) (world h st c) (record { held = e; same = refl })) ∙ q

      all_agree : AllLinksAgree c c' (links g ks (call a v st c)) (links g ks (call a v st c'))
      all_agree =
          by_kept v _
          (λ h e.
          both_agree ks _ _ (world h st c) (world h st c') (record { held = e; same = refl }) (record { held = e; same = refl }) (D.agrees h st ks (spared_by h e)))
          (λ e. wrong_agree ks v st a a e)

      -- ---- the word that reads the area

      module _ (allowance k : ℕ) (f : LinkFirst g n x allowance k (linked_to g ks (call a v st c))) where
        abbrev lent : Call
        lent = linked_to g ks (call a v st c)

        abbrev lent' : Call
        lent' = linked_to g ks (call a v st c')

        -- of worlds that are left, as the model has it
        ended : (W W' : World) → world_by lent f.said ≡ W → Says lent' W' → EndsThere g x allowance k W W'
            → LinkEnds x (run g k W) lent' (link g (go allowance) lent')
        unfolding call_of hear next
        ended W W' p S E =
            let U = E.until in
            subst (LinkEnds x (run g k W) lent') (sym (link_says g (go allowance) lent' W' S))
            (record {
              word = E.checked.word;
              given = (λ i. tested (sym U.storage i) (sym U.held i).channel.next (sym U.held i).channel.after_tic) ∙ E.checked.given;
              answer = ap answer_no E.answer;
              held = ap encoded (E.checked.held ∙ ap (λ (y : Held). rested (with_sense y.position (data_check x.part))) U.held);
              storage = E.checked.storage
                  ∙ (λ i. stored (U.storage i) (status_for (U.held i).channel.key (U.held i).channel.next 0x0E 0x00 E.checked.word.count));
              cells = E.checked.cells ∙ U.theirs ∙ sym (ap (λ (y : World). y.cells) S.same);
            })

        held_ends : (h : Held) → kept v ≡ Some h → LinkEnds x (run g k (world_by lent f.said)) lent' (link g (go allowance) lent')
        held_ends h e =
            let S = left_says g ks (call a v st c) (world h st c) (record { held = e; same = refl }) in
            let S' = left_says g ks (call a v st c') (world h st c') (record { held = e; same = refl }) in
            let W = left g ks (world h st c) in
            let p : world_by lent f.said ≡ W = ap (world_by lent) (held_is _ _ (sym f.says ∙ S.held)) ∙ S.same in
            let E = D.ends h st ks (spared_by h e) allowance k (subst (FirstReads g n x allowance k) p f.first) in
            subst (λ (y : World). LinkEnds x (run g k y) lent' (link g (go allowance) lent')) (sym p) (ended W _ p S' E)

        all_ends : LinkEnds x (run g k (world_by lent f.said)) lent' (link g (go allowance) lent')
        all_ends =
            by_kept v _ held_ends
            (λ e. absurd (holds_not f.said (sym f.says ∙ ap kept (left_wrong g ks (call a v st c) e).0 ∙ e)))

    -- what is lent, with these cells
    with_is : (y : Call) → y.cells ≡ c → call y.answer y.held y.storage c ≡ y
    with_is y e = λ i. call y.answer y.held y.storage (sym e i)

    link_demand_3 : LinkDemand3 g n x c c'
    link_demand_3 = record {
      agrees = λ y e ks.
          subst (λ (z : Call). spared_links g n x ks z ≡ true → AllLinksAgree c c' (links g ks z) (links g ks (with_cells y c'))) (with_is y e)
          (λ q. all_agree y.answer y.held y.storage ks q);
      ends = λ y e ks.
          subst (λ (z : Call). spared_links g n x ks z ≡ true → (allowance k : ℕ) → (f : LinkFirst g n x allowance k (linked_to g ks z))
          → LinkEnds x (run g k (world_by (linked_to g ks z) f.said)) (linked_to g ks (with_cells y c')) (link g (go allowance) (linked_to g ks (with_cells y c')))) (with_is y e)
          (λ q allowance k f. all_ends y.answer y.held y.storage ks q allowance k f);
    }

  -- ---- soundness: by one deed after another

  -- as far as it is asked of what is lent: storage is bytes, and so is sense, if the bytes say a held state
  record Bytes (x : Call) : Type 0 where
    storage : all_under 256 x.storage ≡ true
    said : (h : Held) → kept x.held ≡ Some h → InBytes (world_by x h)

  lent-bytes : (x : Call) → LentBytes x → Bytes x
  lent-bytes x b = record {
    storage = b.storage;
    said = λ h e.
        let r = kept_in_range x.held h (under-bytes x.held b.held) e in
        record { storage = b.storage; byte0 = r.byte0; byte1 = r.byte1 };
  }

  -- what a call leaves of what the bytes say
  heard-bytes : (y : Hears) → InBytes y.left → Bytes (call_of y)
  unfolding call_of
  heard-bytes y b = record {
    storage = b.storage;
    said = λ h e. subst (λ (k : Held). InBytes (world k y.left.storage y.left.cells)) (held_is _ _ (sym (kept-encoded y.left.held) ∙ e)) b;
  }

  -- .. and where they say nothing
  refused_bytes : (x : Call) → Bytes x → Bytes (refused g x)
  refused_bytes x b = record { storage = b.storage; said = λ h e. b.said h e }

  module _ (x : Call) (b : Bytes x) where
    call-bytes : (k : HostCall) → Bytes (link g k x)
    unfolding left
    call-bytes k =
        by_kept x.held _
        (λ h e. subst Bytes (sym (link_holds g k x h e)) (heard-bytes _ ((soundness_lasts g).bytes_calls (k ∷ []) (world_by x h) (b.said h e))))
        (λ e. subst Bytes (sym (link_wrong g k x e)) (refused_bytes x b))

    call_known : (m : ℕ) (k : HostCall) (y : Bool) → Known m x.cells y → Known m (link g k x).cells (known_deed g m (calls k) x y)
    unfolding known_deed if_held call_of left known_calls
    call_known m k y S =
        let f : Held → Bool = λ (h : Held). known_call g m k (world_by x h) y in
        by_kept x.held _
        (λ h e.
        subst (λ (z : Call). Known m z.cells (if_held (kept x.held) f y)) (sym (link_holds g k x h e))
        (subst (λ (z : Option Held). Known m (hear g k (world_by x h)).left.cells (if_held z f y)) (sym e)
        ((soundness_lasts g).calls m (k ∷ []) (world_by x h) (b.said h e) y S)))
        (λ e.
        subst (λ (z : Call). Known m z.cells (if_held (kept x.held) f y)) (sym (link_wrong g k x e))
        (subst (λ (z : Option Held). Known m x.cells (if_held z f y)) (sym e) S))

  -- what is brought
  module _ (v s : List ℕ) (ds : List Deed) (q : brought_bytes (brings v s ∷ ds) ≡ true) where
    brought : (x : Call) → Bytes (deed g (brings v s) x)
    unfolding deed brought_bytes
    brought x =
        let e : both (all_under 256 v) (all_under 256 s) ≡ true = first_of (both (all_under 256 v) (all_under 256 s)) (brought_bytes ds) q in
        lent-bytes _ (record { held = first_of (all_under 256 v) _ e; storage = second_of (all_under 256 v) _ e })

    brought_later : brought_bytes ds ≡ true
    unfolding brought_bytes
    brought_later = second_of (both (all_under 256 v) (all_under 256 s)) (brought_bytes ds) q

  deeds-bytes : (ds : List Deed) (x : Call) → Bytes x → brought_bytes ds ≡ true → Bytes (deeds g ds x)
  unfolding deeds deed brought_bytes
  deeds-bytes [] x b q = b
  deeds-bytes (calls k ∷ ds) x b q = deeds-bytes ds (link g k x) (call-bytes x b k) q
  deeds-bytes (brings v s ∷ ds) x b q = deeds-bytes ds _ (brought v s ds q x) (brought_later v s ds q)

  deeds_known : (m : ℕ) (ds : List Deed) (x : Call) → Bytes x → brought_bytes ds ≡ true → (y : Bool) → Known m x.cells y
      → Known m (deeds g ds x).cells (known_deeds g m ds x y)
  unfolding deeds deed brought_bytes known_deeds known_deed
  deeds_known m [] x b q y S = S
  deeds_known m (calls k ∷ ds) x b q y S = deeds_known m ds (link g k x) (call-bytes x b k) q _ (call_known x b m k y S)
  deeds_known m (brings v s ∷ ds) x b q y S = deeds_known m ds _ (brought v s ds q x) (brought_later v s ds q) y S

  -- ---- where no Write HA was done, what was known is known

  deed_keeps : (m : ℕ) (d : Deed) (x : Call) → home_spared g d x ≡ true → known_deed g m d x true ≡ true
  unfolding known_deed home_spared if_held
  deed_keeps m (calls k) x q =
      let f : Held → Bool = λ (h : Held). known_call g m k (world_by x h) true in
      let r : if_held (kept x.held) (λ (h : Held). home_kept g k (world_by x h)) true ≡ true = q in
      by_kept x.held _
      (λ h e.
      ap (λ (z : Option Held). if_held z f true) e
      ∙ Lasting.call_keeps g m k (world_by x h) (sym (ap (λ (z : Option Held). if_held z (λ (i : Held). home_kept g k (world_by x i)) true) e) ∙ r))
      (λ e. ap (λ (z : Option Held). if_held z f true) e)
  deed_keeps m (brings v s) x q = refl

  deeds_keep : (m : ℕ) (ds : List Deed) (x : Call) → homes_spared g ds x ≡ true → known_deeds g m ds x true ≡ true
  unfolding homes_spared known_deeds
  deeds_keep m [] x q = refl
  deeds_keep m (d ∷ ds) x q =
      ap (known_deeds g m ds (deed g d x)) (deed_keeps m d x (first_of (home_spared g d x) _ q)) ∙ deeds_keep m ds (deed g d x) (second_of (home_spared g d x) _ q)

-- ---- all of it

pub linked : (g : Shape) → Linked g
linked g = record {
  cut = cuts g;
  confined = confined g;
  demand_3 = link_demand_3 g;
  sound = λ ds x. record {
    lent_storage = λ b q. (deeds-bytes g ds x (lent-bytes g x b) q).storage;
    track_sound = λ b q m y S. deeds_known g m ds x (lent-bytes g x b) q y S;
    pack_sound = λ b q e S m h. deeds_known g m ds x (lent-bytes g x b) q true (λ _. S m h) (deeds_keep g m ds x e);
  };
}
