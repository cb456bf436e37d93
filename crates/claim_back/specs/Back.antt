-- What was written reads back through the box (REFERENCE 9.6): "After a write that ended without Unit Check, and with no later write on that track, a read
-- that takes that record (selected or come to by its marker; 16 for R0, 1A for the home address) and names only areas that the write laid or read, its area in
-- storage clear of command words and the status word, places, of each area that the write laid and as far as its count goes, the bytes sent, zeros for those
-- missing; DL 0 as document 01 says. (A key that was unreadable before an 05 stays so: a read that names it ends in Data Check.)"
use Rattle.std.specs.Prelude.{ℕ, ◌+◌, ◌-◌, ◌<◌, min, ◌≡◌, Bool, true, false, not, List, [], ◌++◌, length, get_or, ltb, eqb, Some, None, Ok, Option}
use Rattle.cells.specs.Cells.{pick, both, either, be16, part, padded, marks}
use Rattle.words.specs.declared.{Word.Word, Directive.Directive}
use Rattle.words.specs.Words.{status_at}
use Rattle.areas.specs.declared.{Counts.Counts}
use Rattle.areas.specs.Areas.{home_bytes, counts_at, key_area, readable}
use Rattle.hunt.specs.declared.{Spot.Spot}
use Rattle.hunt.specs.Hunt.{count_first, next_record}
use Rattle.recording.specs.Recording.{count_sent}
use Rattle.pack.specs.declared.{Shape.Shape}
use Rattle.held.specs.declared.{Position.Position, Orders.Orders, Held.Held}
use Rattle.turn.specs.declared.{Ending.Ending}
use Rattle.turn.specs.Turn.{Gives, report_of, is_check}
use Rattle.table.specs.declared.{Aim.Aim, Names.Names, Write.Write, Act.Act}
use Rattle.table.specs.Table.{rule_of, serves_data, serves_key}
use Rattle.command.specs.Command.{no_counts, count_moved, key_sent}
use Rattle.channel.specs.Channel.{fetched, goes_on, World, world}
use Rattle.chain.specs.Step.{track_under, next, turn_of, step, run, Legal}
use Rattle.host.specs.declared.{Answer.Answer}
use Rattle.host.specs.Host.{guard_of, if_passes, starts, goes, no_refusal}
use Rattle.sound.specs.Sound.{end_at}
use Rattle.claim_box.specs.Boxes.{all_under}
use Rattle.claim_box.specs.Confined.{in_status, spares_byte, track_on}
use Rattle.claim_box.specs.Demand3.{track, DataChecked}
use Rattle.claim_sound.specs.Soundness.{bytes, spares_done}

-- ---- "that record": what a write leaves and a read takes, the home address or a record

pub data Work : Type 0 where
  OnHome : Work
  OnRecord : Spot → Work
  OnNothing : Work

unfoldable pub selected : Option Spot → Work
selected None = OnNothing
selected (Some spot) = OnRecord spot

-- behind the record selected
unfoldable pub behind : List ℕ → Option Spot → Work
behind t None = OnNothing
behind t (Some spot) = OnRecord (Spot.Marker (end_at t (count_first spot)))

-- a write on the track t with this record selected
unfoldable pub left_by : Write → List ℕ → Option Spot → Work
left_by Write.HomeAddress t x = OnHome
left_by Write.R0 t x = OnRecord Spot.R0
left_by Write.CountKeyData t x = behind t x
left_by (Write.Update key) t x = selected x

unfoldable pub comes_to : Option (Spot × ℕ) → Work
comes_to (Some (spot, n)) = OnRecord spot
comes_to None = OnNothing

-- by its marker, among the markers m
unfoldable pub by_marker : List Bool → Position → Work
by_marker m s = comes_to (next_record m s.place)

-- 1A, 16; 12 and 1E; 06 and 0E, which take the record selected where the command before serves them
unfoldable pub taken_by : Aim → List Bool → Position → Orders → Work
taken_by Aim.HomeAddress m s o = OnHome
taken_by Aim.R0 m s o = OnRecord Spot.R0
taken_by Aim.Next m s o = by_marker m s
taken_by Aim.NextForData m s o = pick (serves_data (rule_of o.before).serves) (selected o.selection) (by_marker m s)
taken_by Aim.NextForKey m s o = pick (serves_key (rule_of o.before).serves) (selected o.selection) (by_marker m s)
taken_by Aim.NextId m s o = OnNothing
taken_by Aim.Selected m s o = OnNothing
taken_by Aim.Stays m s o = OnNothing

-- ---- "the bytes sent", of each area; a count's are the 8 that move

pub record Sent : Type 0 where
  pub home : List ℕ
  pub count : List ℕ
  pub key : List ℕ
  pub body : List ℕ

-- n of the bytes v from one on, zeros for those missing
abbrev pub bytes_from : List ℕ → ℕ → ℕ → List ℕ
bytes_from v from n = padded n (part v from n)

-- KL and DL of a new record, as sent: byte 5, and bytes 6 and 7, of CC, HH, R, KL, DL
abbrev pub kl_sent : List ℕ → ℕ
kl_sent v = get_or (padded count_sent v) 5 0

abbrev pub dl_sent : List ℕ → ℕ
dl_sent v = be16 (padded count_sent v) 6

-- 15 and 1D: count, key, data
unfoldable pub new_sent : List ℕ → Sent
new_sent v = record {
  home = [];
  count = padded count_sent v;
  key = bytes_from v count_sent (kl_sent v);
  body = bytes_from v (count_sent + kl_sent v) (dl_sent v);
}

-- 0D: key, data; 05: data; the count, which they read, is as it was
unfoldable pub update_sent : Bool → Counts → List ℕ → Sent
update_sent key n v = record {
  home = [];
  count = count_moved n;
  key = bytes_from v 0 (key_sent key n);
  body = bytes_from v (key_sent key n) n.dl;
}

unfoldable pub sent_by : Write → Counts → List ℕ → Sent
sent_by Write.HomeAddress n v = record { home = padded home_bytes v; count = []; key = []; body = [] }
sent_by Write.R0 n v = new_sent v
sent_by Write.CountKeyData n v = new_sent v
sent_by (Write.Update key) n v = update_sent key n v

-- those of the areas that a read names, with the count's or not
unfoldable pub asked : Names → Bool → Sent → List ℕ
asked Names.Nothing counted x = []
asked Names.HomeAddress counted x = x.home
asked (Names.Count key body) counted x = pick counted x.count [] ++ (pick key x.key [] ++ pick body x.body [])

-- ---- "names only areas that the write laid or read": 05 passes a key over

unfoldable pub names_key : Names → Bool
names_key Names.Nothing = false
names_key Names.HomeAddress = false
names_key (Names.Count key body) = key

unfoldable pub passes_key : Write → Counts → Bool
passes_key Write.HomeAddress n = false
passes_key Write.R0 n = false
passes_key Write.CountKeyData n = false
passes_key (Write.Update key) n = both (not key) (ltb 0 n.kl)

-- ---- "with no later write on that track": v comes after w, and no write between them is done on track m

pub data Since (g : Shape) (m : ℕ) (w : World) : World → Type 0 where
  now : Since g m w w
  words : {v : World} (n : ℕ) → Since g m w v → Legal g v → spares_done g m n v ≡ true → Since g m w (run g n v)
  start : {v : World} → Since g m w v → Since g m w (starts g v).left
  go : {v : World} (n : ℕ) → Since g m w v → if_passes (guard_of g v) (spares_done g m n v) ≡ true → Since g m w (goes g n v).left
  -- the host between two calls brings another held state and other storage
  host : {v : World} (h : Held) (s : List ℕ) → Since g m w v → Since g m w (world h s v.cells)

-- ---- a write, and a read of what it wrote

-- the count of the record selected
unfoldable pub counts_on : List ℕ → Option Spot → Counts
counts_on t None = no_counts
counts_on t (Some spot) = counts_at t (count_first spot)

abbrev pub counts_there : Shape → World → Counts
counts_there g w = counts_on (track_under g w) w.held.orders.selection

-- the next word d of w is the write k, and ends without Unit Check; storage holds bytes
pub record Wrote (g : Shape) (w : World) (d : Word) (k : Write) : Type 0 where
  pub legal : Legal g w
  pub lent : all_under bytes w.storage ≡ true
  pub word : next w ≡ Ok (Directive.Obey d)
  pub act : (rule_of d.code).act ≡ Act.Write k
  pub done : is_check (turn_of g w d).ending ≡ false

-- the next word e of u is a read that takes what the write left, with no later write on that track
pub record Rereads (g : Shape) (w : World) (d : Word) (k : Write) (u : World) (e : Word) (counted : Bool) : Type 0 where
  pub wrote : Wrote g w d k
  pub since : Since g (track_on g w) (step g w) u
  pub legal : Legal g u
  pub word : next u ≡ Ok (Directive.Obey e)
  pub act : (rule_of e.code).act ≡ Act.Read counted
  pub track : track_on g u ≡ track_on g w
  pub takes : taken_by (rule_of e.code).aim (marks (track_under g u)) u.held.position u.held.orders
      ≡ left_by k (track_under g w) w.held.orders.selection

-- it names the key that an 05 passed over
abbrev pub names_passed : Shape → World → Write → Word → Bool
names_passed g w k e = both (names_key (rule_of e.code).names) (passes_key k (counts_there g w))

-- what was sent, and what of it the read e must bring back
abbrev pub sent_at : Shape → World → Word → Write → Sent
sent_at g w d k = sent_by k (counts_there g w) (fetched w.storage d)

abbrev pub asked_by : Word → Bool → Sent → List ℕ
asked_by e counted x = asked (rule_of e.code).names counted x

-- the status word, which is stored where the chain ends, does not go over byte i of the word's area
abbrev pub clear : Shape → World → Word → ℕ → Bool
clear g u e i = either (goes_on e (report_of (turn_of g u e))) (not (in_status (e.address + i)))

-- "DL 0 as document 01 says": DL is 0, so there is no data, and the row of the read has Unit Exception for that
abbrev pub no_data : Word → Sent → Bool
no_data e x = both (rule_of e.code).excepts (eqb (length x.body) 0)

-- a read brings back v of what was sent
pub record Back (g : Shape) (u : World) (e : Word) (x : Sent) (v : List ℕ) : Type 0 where
  -- no Unit Check
  pub ending : (turn_of g u e).ending ≡ pick (no_data e x) Ending.Exception Ending.Normal
  pub moves : (turn_of g u e).moves ≡ Gives v
  -- what a host sees of its end, if the chain ends there: the unit status, byte 4 of the status word
  pub shown : goes_on e (report_of (turn_of g u e)) ≡ false → get_or (step g u).storage (status_at + 4) 0 ≡ pick (no_data e x) 0x0D 0x0C
  -- "as far as its count goes"
  pub places : (i : ℕ) → i < min e.count (length v) → clear g u e i ≡ true → get_or (step g u).storage (e.address + i) 0 ≡ get_or v i 0

-- the record selected has a key, which cannot be read
pub record KeyUnreadable (g : Shape) (w : World) : Type 0 where
  pub spot : Spot
  pub is : w.held.orders.selection ≡ Some spot
  pub some : 0 < (counts_there g w).kl
  pub unreadable : readable (track_under g w) (key_area (count_first spot) (counts_there g w)) ≡ false

-- ---- all of it

pub record WrittenReadsBack (g : Shape) : Type 0 where
  -- "with no later write on that track": its cells are those that the write left
  pub kept : (m : ℕ) (w v : World) → Since g m w v
      → (track v.cells m ≡ track w.cells m) × (length v.cells ≡ length w.cells)
  -- .. and where the write is word j + 1 of a go of n, what that go leaves comes after it, if no write of its later words is done on that track
  pub rest : (m : ℕ) (v : World) (n j : ℕ) → guard_of g v ≡ no_refusal → j < n → (run g j v).held.channel.going ≡ true
      → spares_done g m (n - j - 1) (step g (run g j v)) ≡ true → Since g m (step g (run g j v)) (goes g n v).left
  -- "places, of each area that the write laid and as far as its count goes, the bytes sent, zeros for those missing"
  pub read : (w : World) (d : Word) (k : Write) (u : World) (e : Word) (c : Bool) → Rereads g w d k u e c → names_passed g w k e ≡ false
      → Back g u e (sent_at g w d k) (asked_by e c (sent_at g w d k))
  -- where the read is word j + 1 of a go of n, and no later word of it may change the byte: it is there when the go ends
  pub go : (w : World) (d : Word) (k : Write) (v : World) (n j : ℕ) (e : Word) (c : Bool) → guard_of g v ≡ no_refusal → j < n
      → (run g j v).held.channel.going ≡ true → Rereads g w d k (run g j v) e c → names_passed g w k e ≡ false
      → (i : ℕ) → i < min e.count (length (asked_by e c (sent_at g w d k))) → clear g (run g j v) e i ≡ true
      → spares_byte g (e.address + i) (n - j - 1) (step g (run g j v)) ≡ true
      → get_or (goes g n v).left.storage (e.address + i) 0 ≡ get_or (asked_by e c (sent_at g w d k)) i 0
  -- .. and if the chain ends with that read, the host hears so and finds the read's unit status in the status word
  pub go_ends : (w : World) (d : Word) (k : Write) (v : World) (n j : ℕ) (e : Word) (c : Bool) → guard_of g v ≡ no_refusal → j < n
      → (run g j v).held.channel.going ≡ true → Rereads g w d k (run g j v) e c → names_passed g w k e ≡ false
      → goes_on e (report_of (turn_of g (run g j v) e)) ≡ false
      → ((goes g n v).answer ≡ Answer.ChainEnded) × (get_or (goes g n v).left.storage (status_at + 4) 0 ≡ pick (no_data e (sent_at g w d k)) 0x0D 0x0C)
  -- "A key that was unreadable before an 05 stays so"
  pub stays : (w : World) (d : Word) (u : World) (K : KeyUnreadable g w) → Wrote g w d (Write.Update false) → Since g (track_on g w) (step g w) u
      → readable (track u.cells (track_on g w)) (key_area (count_first K.spot) (counts_there g w)) ≡ false
  -- "a read that names it ends in Data Check"
  pub lost : (w : World) (d : Word) (u : World) (e : Word) (c : Bool) (K : KeyUnreadable g w) → Rereads g w d (Write.Update false) u e c
      → names_key (rule_of e.code).names ≡ true → DataChecked (key_area (count_first K.spot) (counts_there g w)) u (step g u)
  -- .. and where that read is word j + 1 of a go, the host hears that the chain ended there
  pub lost_go : (w : World) (d : Word) (v : World) (n j : ℕ) (e : Word) (c : Bool) (K : KeyUnreadable g w) → guard_of g v ≡ no_refusal → j < n
      → (run g j v).held.channel.going ≡ true → Rereads g w d (Write.Update false) (run g j v) e c → names_key (rule_of e.code).names ≡ true
      → ((goes g n v).answer ≡ Answer.ChainEnded) × DataChecked (key_area (count_first K.spot) (counts_there g w)) (run g j v) (goes g n v).left
