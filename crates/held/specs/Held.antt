-- Document 01, "Where the head stands" and "Commands"; REFERENCE 3: what the box holds from call to call, and the 64 bytes of it that a host keeps.
use Rattle.std.specs.Prelude.{ℕ, ◌+◌, ◌*◌, ◌/◌, ◌%◌, ◌^◌, ◌<◌, Bool, true, false, List, [], ◌∷◌, ◌++◌, length, get_or, drop, replicate, ltb, eqb, None, Some, Option}
use Rattle.cells.specs.Cells.{pick, both, be16, be24}
use Rattle.rows.specs.declared.{Sense.Sense}
use Rattle.hunt.specs.declared.{Spot.Spot}
use Rattle.pack.specs.Pack.{cylinder, head}
-- Position, what survives a chain: cylinder, head, place, sense. Orders, what a command finds: mask, mask_set, before (a code, 0 for none), whole (its
-- search was equal over the whole field), tally, selection (a spot, or none). Channel: going, key, next, after_tic. Held: all three.
use Rattle.held.specs.declared.{Position.Position, Orders.Orders, Channel.Channel, Held.Held}

-- sense all zero
abbrev pub no_sense : Sense
no_sense = record { byte0 = 0; byte1 = 0 }

-- a fresh box stands at cylinder 0, head 0, place 0, with mask 0, sense all zero and no chain going
unfoldable pub fresh_position : Position
fresh_position = record { cylinder = cylinder 0; head = head 0; place = 0; sense = no_sense }

-- each chain starts with mask 0, none set yet, no selection, no command before and index tally 0
unfoldable pub fresh_orders : Orders
fresh_orders = record { mask = 0; mask_set = false; before = 0; whole = false; tally = 0; selection = None }

unfoldable pub fresh_channel : Channel
fresh_channel = record { going = false; key = 0; next = 0; after_tic = false }

unfoldable pub fresh : Held
fresh = record { position = fresh_position; orders = fresh_orders; channel = fresh_channel }

-- chain end puts all back as in a fresh box, but cylinder, head, place and sense
unfoldable pub rested : Position → Held
rested s = record { position = s; orders = fresh.orders; channel = fresh.channel }

-- ---- as 64 bytes; numbers of several bytes are big-endian

abbrev pub held_bytes : ℕ
held_bytes = 64

-- the layout's number
abbrev pub layout : ℕ
layout = 1

abbrev pub bit : Bool → ℕ
bit true = 1
bit false = 0

-- a selection's number, and its marker's cell, zero if none
abbrev pub selection_no : Option Spot → ℕ
selection_no None = 0
selection_no (Some Spot.R0) = 1
selection_no (Some (Spot.Marker p)) = 2

abbrev pub selection_cell : Option Spot → ℕ
selection_cell None = 0
selection_cell (Some Spot.R0) = 0
selection_cell (Some (Spot.Marker p)) = p

abbrev pub two : ℕ → List ℕ
two n = n / 256 ∷ n % 256 ∷ []

abbrev pub four : ℕ → List ℕ
four n = n / 16777216 ∷ n / 65536 % 256 ∷ n / 256 % 256 ∷ n % 256 ∷ []

-- bytes 0 to 23, by their places; 24 to 63 are zero
unfoldable pub encoded : Held → List ℕ
encoded h =
    bit h.channel.going  -- 0
    ∷ h.channel.key  -- 1
    ∷ h.orders.mask  -- 2
    ∷ bit h.orders.mask_set  -- 3
    ∷ h.position.sense.byte0  -- 4
    ∷ h.position.sense.byte1  -- 5
    ∷ bit h.channel.after_tic  -- 6
    ∷ h.orders.before  -- 7
    ∷ bit h.orders.whole  -- 8
    ∷ h.orders.tally  -- 9
    ∷ selection_no h.orders.selection  -- 10
    ∷ layout  -- 11
    ∷ (two (selection_cell h.orders.selection)  -- 12, 13
    ++ two h.position.cylinder.0  -- 14, 15
    ++ two h.position.head.0  -- 16, 17
    ++ two h.position.place  -- 18, 19
    ++ four h.channel.next  -- 20 to 23
    ++ replicate 40 0)  -- 24 to 63

-- a held state whose numbers are in the ranges of their types
pub record InRange (h : Held) : Type 0 where
  pub key : h.channel.key < 256
  pub next : h.channel.next < 2 ^ 32
  pub mask : h.orders.mask < 256
  pub before : h.orders.before < 256
  pub tally : h.orders.tally < 256
  pub cell : selection_cell h.orders.selection < 65536
  pub byte0 : h.position.sense.byte0 < 256
  pub byte1 : h.position.sense.byte1 < 256
  pub cylinder : h.position.cylinder.0 < 65536
  pub head : h.position.head.0 < 65536
  pub place : h.position.place < 65536

-- ---- bytes that encode a held state

abbrev pub is_bit : ℕ → Bool
is_bit b = ltb b 2

unfoldable pub all_zero : List ℕ → Bool
all_zero [] = true
all_zero (b ∷ v) = both (eqb b 0) (all_zero v)

abbrev pub is_set : ℕ → Bool
is_set b = eqb b 1

-- the marker's cell is zero where no marker is selected
abbrev pub cell_fits : List ℕ → Bool
cell_fits v = pick (eqb (get_or v 10 0) 2) true (eqb (be16 v 12) 0)

-- the four flags; the selection, with its cell
unfoldable pub flags_fit : List ℕ → Bool
flags_fit v = both (is_bit (get_or v 0 0)) (both (is_bit (get_or v 3 0)) (both (is_bit (get_or v 6 0)) (is_bit (get_or v 8 0))))

unfoldable pub selection_encoded : List ℕ → Bool
selection_encoded v = both (ltb (get_or v 10 0) 3) (cell_fits v)

-- length, layout, flags, selection, zeros
unfoldable pub encodes : List ℕ → Bool
encodes v =
    both (eqb (length v) held_bytes)
    (both (eqb (get_or v 11 0) layout) (both (flags_fit v) (both (selection_encoded v) (all_zero (drop 24 v)))))

unfoldable pub selection_in : List ℕ → Option Spot
selection_in v =
    pick (eqb (get_or v 10 0) 0) None (pick (eqb (get_or v 10 0) 1) (Some Spot.R0) (Some (Spot.Marker (be16 v 12))))

abbrev pub be32 : List ℕ → ℕ → ℕ
be32 v at = get_or v at 0 * 16777216 + be24 v (at + 1)

-- what 64 bytes say, if they encode a held state
unfoldable pub decoded : List ℕ → Held
decoded v = record {
  position = record {
    cylinder = cylinder (be16 v 14);
    head = head (be16 v 16);
    place = be16 v 18;
    sense = record { byte0 = get_or v 4 0; byte1 = get_or v 5 0 };
  };
  orders = record {
    mask = get_or v 2 0;
    mask_set = is_set (get_or v 3 0);
    before = get_or v 7 0;
    whole = is_set (get_or v 8 0);
    tally = get_or v 9 0;
    selection = selection_in v;
  };
  channel = record {
    going = is_set (get_or v 0 0);
    key = get_or v 1 0;
    next = be32 v 20;
    after_tic = is_set (get_or v 6 0);
  };
}

unfoldable pub kept : List ℕ → Option Held
kept v = pick (encodes v) (Some (decoded v)) None
