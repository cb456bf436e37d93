-- Two outcomes equal to the same call of the model are equal to each other, and so field by field.
use mathlib.Core.Path.{◌≡◌, ap}
use Rattle.look.specs.Look.{Looked}
use Rattle.box_export.specs.Calls.{Call, call}
use Rattle.claim_box.proofs.Pinned.{one_outcome}
use Rattle.claim_box.specs.Exports.{Outcome, Pinned}

-- the same call: the same outcome
same_call : (x x' : Outcome)
    → call x.result x.held x.storage x.cells ≡ call x'.result x'.held x'.storage x'.cells → x ≡ x'
same_call x x' e = λ i. record {
  result = ap (λ (k : Call). k.answer) e i;
  held = ap (λ (k : Call). k.held) e i;
  storage = ap (λ (k : Call). k.storage) e i;
  cells = ap (λ (k : Call). k.cells) e i;
}

pub pinned : Pinned
pinned = record {
  fresh_pinned = λ v r r' x x' p q. (one_outcome p.0 q.0, one_outcome p.1 q.1);
  start_pinned = λ cylinders heads v s c x x' p q. same_call x x' (one_outcome p q);
  go_pinned = λ cylinders heads allowance v s c x x' p q. same_call x x' (one_outcome p q);
  check_pinned = λ c r r' p q. one_outcome p q;
  marker_pinned = λ t place r r' p q. one_outcome p q;
  area_pinned = λ t c n v r r' x x' p q. (ap (λ (k : Looked). k.answer) (one_outcome p q), ap (λ (k : Looked). k.area) (one_outcome p q));
}
