-- The words of the commands on time slots (this project's profile).
use Rattle.std.specs.Prelude.{◌≡◌, ℕ, ◌≤◌, List, [], ◌∷◌, codes, decimal}
use Rattle.command_words.specs.declared.asked.Asked.{Asked}
use Rattle.command_words.specs.declared.asked.Asked.TheVariants.{Run, Save, Resume, Drill, Live, Relay, Frames, Encode, Decode, Follow, Split, Merge}

-- a command's word and the first of four calls, 1 to 4,093, in decimal digits without leading zeros
pub record NamesSlot (words : List (List ℕ)) (name : List ℕ) (call : ℕ) : Type 0 where
  pub low : 1 ≤ call
  pub high : call ≤ 4093
  pub spelled : words ≡ name ∷ decimal call ∷ []

-- the command of this name on this slot
abbrev pub IsSlotOn : Asked → List ℕ → ℕ → Type 0
IsSlotOn (Run s) name call = ⊥
IsSlotOn (Save s) name call = ⊥
IsSlotOn (Resume s) name call = ⊥
IsSlotOn (Drill seed calls s) name call = ⊥
IsSlotOn (Live s) name call = ⊥
IsSlotOn (Relay c) name call = ⊥
IsSlotOn (Frames c) name call = ⊥
IsSlotOn (Encode c) name call = ⊥
IsSlotOn (Decode c) name call = ⊥
IsSlotOn (Follow c want) name call = ⊥
IsSlotOn (Split c) name call = (name ≡ codes "split") × (c ≡ call)
IsSlotOn (Merge c) name call = (name ≡ codes "merge") × (c ≡ call)

-- words ask for a command on a slot
abbrev pub AsksSlot : List (List ℕ) → Asked → Type 0
AsksSlot words (Run s) = ⊥
AsksSlot words (Save s) = ⊥
AsksSlot words (Resume s) = ⊥
AsksSlot words (Drill seed calls s) = ⊥
AsksSlot words (Live s) = ⊥
AsksSlot words (Relay c) = ⊥
AsksSlot words (Frames c) = ⊥
AsksSlot words (Encode c) = ⊥
AsksSlot words (Decode c) = ⊥
AsksSlot words (Follow c want) = ⊥
AsksSlot words (Split c) = NamesSlot words (codes "split") c
AsksSlot words (Merge c) = NamesSlot words (codes "merge") c
