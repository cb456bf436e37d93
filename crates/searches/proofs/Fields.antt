-- The field of a search lies where the code compares it, once all that its job names was readable.
use Prim.Native.Nat.{ℕ, ◌+◌, ◌*◌, ◌/◌, ◌%◌, ◌≤◌}
use mathlib.Core.Path.{◌≡◌, refl, ap, ◌∙◌}
use mathlib.Core.Bool.{Bool, true, false}
use mathlib.Core.List.{List, [], ◌∷◌}
use native.Mathlib.Omega.{arith}
use native.Mathlib.Decide.{ℕ_discrete}
use lib.ListN.{length, take, drop, length-drop}
use lib.Seq.{drop-drop}
use Rattle.cells.specs.Cells.{part, byte_of, bytes_of}
use Rattle.cells.proofs.Laws.{length-bytes_of, take-bytes_of, length_part}
use Rattle.areas.specs.declared.{Counts.Counts}
use Rattle.areas.specs.Areas.{count_area, key_area, counts_of, counts_at}
use Rattle.compare.specs.Compare.{compared_bytes}
use Rattle.pack.specs.declared.{Head.Head}
use Rattle.command.specs.Command.{Seen, id_of, gets, seen_of, Sighted, areas_of, areas_read, field_of, comparison}
use Rattle.command.proofs.Seen.{area-bytes, count-lies, record_counts, key_lies, record_key, home_seen, home_lies}
use Rattle.table.specs.declared.{Names.Names}
use Rattle.turn.specs.Turn.{alone}
use Rattle.command.specs.declared.{Job.Job}
use Rattle.searches.specs.Field.{field_first, field_length}
use Rattle.std.specs.Prelude.{Ok}

-- ---- a field that lies on the track: so many bytes from a cell on

pub record Lying (t f : List ℕ) (first n : ℕ) : Type 0 where
  pub there : f ≡ bytes_of (part t first n)
  pub ends : first + n ≤ length t

-- the home address without its flag
home_tail : (t : List ℕ) → drop 1 (bytes_of (part t 0 5)) ≡ bytes_of (part t 1 4)
unfolding bytes_of part
home_tail [] = refl
home_tail (x ∷ t) = refl

-- the ID that the cells of a count area say: their bytes behind the flag
high : (x y : ℕ) → (byte_of x * 256 + byte_of y) / 256 ≡ byte_of x
high x y = omega arith

low : (x y : ℕ) → (byte_of x * 256 + byte_of y) % 256 ≡ byte_of y
low x y = omega arith

id_in : List ℕ → List ℕ
id_in v = id_of (counts_of v).cc (counts_of v).hh (counts_of v).r

id_said : (l : List ℕ) → 6 ≤ length l → id_in (bytes_of (take 9 l)) ≡ bytes_of (take 5 (drop 1 l))
unfolding id_in id_of counts_of bytes_of
id_said [] h = absurd (omega arith)
id_said (a ∷ []) h = absurd (omega arith)
id_said (a ∷ b ∷ []) h = absurd (omega arith)
id_said (a ∷ b ∷ c ∷ []) h = absurd (omega arith)
id_said (a ∷ b ∷ c ∷ d ∷ []) h = absurd (omega arith)
id_said (a ∷ b ∷ c ∷ d ∷ e ∷ []) h = absurd (omega arith)
id_said (a ∷ b ∷ c ∷ d ∷ e ∷ f ∷ l) h = λ i. high b c i ∷ low b c i ∷ high d e i ∷ low d e i ∷ byte_of f ∷ []

module _ (t : List ℕ) (h : Head) (c : ℕ) (body : Bool) (n : Counts) (e : gets (Names.Count false body) (alone t) h c ≡ Ok n) where
  id_there : id_of n.cc n.hh n.r ≡ bytes_of (part t (c + 1) 5)
  unfolding id_in counts_at part
  id_there =
      let long : 6 ≤ length (drop c t) = omega (arith, length-drop c t, count-lies (alone t) h c false body n e) in
      ap (λ (x : Counts). id_of x.cc x.hh x.r) (record_counts (alone t) h c false body n e) ∙ ap id_in (area-bytes t (count_area c))
      ∙ id_said (drop c t) long ∙ ap (λ (l : List ℕ). bytes_of (take 5 l)) (drop-drop 1 c t)

-- .. by what the search names
module _ (t : List ℕ) (h : Head) (c : ℕ) (n : Counts) where
  abbrev seen_here : Names → Seen
  seen_here m = seen_of (alone t) (areas_of m (alone t) h c)

  home_field : gets Names.HomeAddress (alone t) h c ≡ Ok n → Lying t (field_of Names.HomeAddress n (seen_here Names.HomeAddress)) 1 4
  unfolding field_of
  home_field e = record {
    there = ap (drop 1) (home_seen (alone t) h c) ∙ home_tail t;
    ends = omega (arith, home_lies (alone t) h c n e);
  }

  id_field : (body : Bool) → gets (Names.Count false body) (alone t) h c ≡ Ok n
      → Lying t (field_of (Names.Count false body) n (seen_here (Names.Count false body))) (c + 1) 5
  unfolding field_of
  id_field body e = record { there = id_there t h c body n e; ends = omega (arith, count-lies (alone t) h c false body n e) }

  key_field : (body : Bool) → gets (Names.Count true body) (alone t) h c ≡ Ok n
      → Lying t (field_of (Names.Count true body) n (seen_here (Names.Count true body))) (c + 11) n.kl
  unfolding field_of key_area
  key_field body e = record {
    there = record_key (alone t) h c true body n e;
    ends = go (ℕ_discrete n.kl 0);
  }
    where
      go : Dec (n.kl ≡ 0) → c + 11 + n.kl ≤ length t
      go (yes q) = omega (arith, count-lies (alone t) h c true body n e)
      go (no q) = key_lies (alone t) h c true body n e refl (omega arith)

  field_by : (m : Names) → gets m (alone t) h c ≡ Ok n → Lying t (field_of m n (seen_here m)) (field_first m c) (field_length m n)
  unfolding field_of field_first field_length bytes_of part
  field_by Names.Nothing e = record { there = refl; ends = omega arith }
  field_by Names.HomeAddress e = home_field e
  field_by (Names.Count true body) e = key_field body e
  field_by (Names.Count false body) e = id_field body e

-- .. of a job
abbrev pub field_in : List ℕ → Job → List ℕ
field_in t j = field_of j.names j.counts (seen_of (alone t) (areas_read (alone t) j))

pub field_lies : (t : List ℕ) (j : Job) → Sighted (alone t) j
    → Lying t (field_in t j) (field_first j.names j.task.place) (field_length j.names j.counts)
unfolding areas_read
field_lies t j s = field_by t j.task.head j.task.place j.counts j.names s.sees

pub lying_long : (t f : List ℕ) (first n : ℕ) → Lying t f first n → length f ≡ n
lying_long t f first n l = ap length l.there ∙ length-bytes_of (part t first n) ∙ length_part t first n l.ends

-- ---- compared with the bytes sent, as many as both have

pub compared_there : (t v : List ℕ) (first n m : ℕ) → m ≡ n
    → compared_bytes (take m (drop first t)) v ≡ comparison (bytes_of (part t first n)) v
unfolding comparison compared_bytes part
compared_there t v first n m e = rw e (simp (take-bytes_of, length-bytes_of))
