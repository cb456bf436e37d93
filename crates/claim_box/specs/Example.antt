-- Demand 3 (REFERENCE 1.3) is not empty: one pack, harmed as a whole, and one chain on it that meets every premise. Search ID takes R0, Space Record passes
-- the damaged record 1, Read CKD takes record 2 and Read Count record 3; a second Read Count passes the index point and reads record 1's count.
use Rattle.std.specs.Prelude.{ℕ, ◌≡◌, true, List, [], ◌∷◌, ◌++◌, replicate}
use Rattle.held.specs.Held.{fresh}
use Rattle.channel.specs.Channel.{World, world}
use Rattle.claim_box.specs.Figures.{word, storage_with, one_pack}
use Rattle.claim_box.specs.Reading.{stocked, hurt_count, one_count}
use Rattle.claim_box.specs.Demand3.{Harmed, HostCall, start, go, heard, left, spared_calls, AllAgree, FirstReads, EndsThere}

-- the words, at 256; the ID of R0 is at 128
abbrev pub passing_words : List ℕ
passing_words = word 0x31 128 0x40 5 ++ replicate 8 0 ++ word 0x0F 128 0x40 1 ++ word 0x1E 160 0x40 14 ++ word 0x12 176 0x40 8 ++ word 0x12 184 0x00 8

-- a fresh box with this track
abbrev pub passing : List ℕ → World
passing t = world fresh (storage_with passing_words (0 ∷ 0 ∷ 0 ∷ 0 ∷ 0 ∷ [])) t

-- a start, and three words: they pass the damage
abbrev pub passing_calls : List HostCall
passing_calls = start ∷ go 3 ∷ []

abbrev pub passed : List ℕ → World
passed t = left one_pack passing_calls (passing t)

pub record Met : Type 0 where
  pub harmed : Harmed 0 48 one_count stocked hurt_count
  pub spared : spared_calls one_pack 0 one_count passing_calls (passing stocked) ≡ true
  -- of the two words that are left the second reads it
  pub first : FirstReads one_pack 0 one_count 2 1 (passed stocked)
  -- so demand 3 says of them
  pub agrees : AllAgree stocked hurt_count (heard one_pack passing_calls (passing stocked)) (heard one_pack passing_calls (passing hurt_count))
  pub ends : EndsThere one_pack one_count 2 1 (passed stocked) (passed hurt_count)
