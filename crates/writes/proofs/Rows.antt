-- What the table says of the writes: the row of Write R0 names the home address. With it a caller whose job does and names what its code's row says gives `DoesWrite`.
use Prim.Native.Nat.{ℕ}
use mathlib.Core.Path.{◌≡◌, refl, sym, ap, ◌∙◌, subst}
use mathlib.Core.List.{List, [], ◌∷◌}
use lib.Dec.{eqb}
use Rattle.cells.proofs.Tests.{pick_all}
use Rattle.table.specs.declared.{Names.Names, Write.Write, Act.Act, Rule.Rule}
use Rattle.table.specs.Table.{Entry, controls, searches, reads, writes, find, rule_of}
use Rattle.command.specs.declared.{Job.Job}
use Rattle.writes.specs.Writes.{DoesWrite}

abbrev WriteNames : Write → Names → Type 0
WriteNames Write.HomeAddress n = Unit {0}
WriteNames Write.R0 n = n ≡ Names.HomeAddress
WriteNames Write.CountKeyData n = Unit {0}
WriteNames (Write.Update key) n = Unit {0}

abbrev ActNames : Act → Names → Type 0
ActNames (Act.Control a) n = Unit {0}
ActNames (Act.Search h) n = Unit {0}
ActNames (Act.Read c) n = Unit {0}
ActNames (Act.Write w) n = WriteNames w n

abbrev RowNames : Rule → Type 0
RowNames r = ActNames r.act r.names

abbrev All : List Entry → Type 0
All [] = Unit {0}
All (e ∷ l) = RowNames e.rule × All l

find_all : (c : ℕ) (l : List Entry) (other : Rule) → All l → RowNames other → RowNames (find c l other)
unfolding find
find_all c [] other h k = k
find_all c (e ∷ l) other h k = pick_all RowNames (eqb c e.code) {x = e.rule} {y = find c l other} h.0 (find_all c l other h.1 k)

rows : (c : ℕ) → RowNames (rule_of c)
unfolding rule_of controls searches reads writes
rows c =
    find_all c controls _ (tt, (tt, (tt, (tt, (tt, (tt, (tt, tt)))))))
    (find_all c searches _ (tt, (tt, (tt, (tt, (tt, (tt, (tt, tt)))))))
    (find_all c reads _ (tt, (tt, (tt, (tt, (tt, (tt, tt)))))) (find_all c writes _ (tt, (refl, (tt, (tt, (tt, tt))))) tt)))

pub writes_by : (j : Job) (w : Write) → j.act ≡ (rule_of j.code).act → j.names ≡ (rule_of j.code).names → j.act ≡ Act.Write w → DoesWrite j w
writes_by j w p n e = record {
  act = e;
  home = λ q. n ∙ subst (λ (a : Act). ActNames a (rule_of j.code).names) (sym p ∙ e ∙ ap Act.Write q) (rows j.code);
}
