-- What words ask for (this project's profile).
use Rattle.std.specs.Prelude.{◌≡◌, ℕ, List, codes}
use Rattle.command_words.specs.declared.asked.Asked.{Asked}
use Rattle.command_words.specs.declared.asked.Asked.TheVariants.{Run, Save, Resume, Drill, Live, Relay, Frames, Encode, Decode, Follow, Split, Merge}
use Rattle.command_words.specs.Drill.{AsksDrill}
use Rattle.command_words.specs.Follow.{NamesFollow}
use Rattle.command_words.specs.Live.{AsksLive}
use Rattle.command_words.specs.Run.{AsksResume, AsksRun, AsksSave}
use Rattle.command_words.specs.Slots.{AsksSlot}
use Rattle.command_words.specs.Words.{Names}

-- the tool of this name on this call
abbrev pub IsToolOn : Asked → List ℕ → ℕ → Type 0
IsToolOn (Run s) name call = ⊥
IsToolOn (Save s) name call = ⊥
IsToolOn (Resume s) name call = ⊥
IsToolOn (Drill seed calls s) name call = ⊥
IsToolOn (Live s) name call = ⊥
IsToolOn (Relay c) name call = (name ≡ codes "relay") × (c ≡ call)
IsToolOn (Frames c) name call = (name ≡ codes "frames") × (c ≡ call)
IsToolOn (Encode c) name call = (name ≡ codes "encode") × (c ≡ call)
IsToolOn (Decode c) name call = (name ≡ codes "decode") × (c ≡ call)
IsToolOn (Follow c want) name call = ⊥
IsToolOn (Split c) name call = ⊥
IsToolOn (Merge c) name call = ⊥

-- words ask for a tool
abbrev pub AsksTool : List (List ℕ) → Asked → Type 0
AsksTool words (Run s) = ⊥
AsksTool words (Save s) = ⊥
AsksTool words (Resume s) = ⊥
AsksTool words (Drill seed calls s) = ⊥
AsksTool words (Live s) = ⊥
AsksTool words (Relay c) = Names words (codes "relay") c
AsksTool words (Frames c) = Names words (codes "frames") c
AsksTool words (Encode c) = Names words (codes "encode") c
AsksTool words (Decode c) = Names words (codes "decode") c
AsksTool words (Follow c want) = ⊥
AsksTool words (Split c) = ⊥
AsksTool words (Merge c) = ⊥

-- what words ask for
abbrev pub Asks : List (List ℕ) → Asked → Type 0
Asks words (Run s) = AsksRun words s
Asks words (Save s) = AsksSave words s
Asks words (Resume s) = AsksResume words s
Asks words (Drill seed calls s) = AsksDrill words seed calls s
Asks words (Live s) = AsksLive words s
Asks words (Relay c) = AsksTool words (Relay c)
Asks words (Frames c) = AsksTool words (Frames c)
Asks words (Encode c) = AsksTool words (Encode c)
Asks words (Decode c) = AsksTool words (Decode c)
Asks words (Follow c want) = NamesFollow words c want
Asks words (Split c) = AsksSlot words (Split c)
Asks words (Merge c) = AsksSlot words (Merge c)

-- words ask for one thing at most
abbrev pub AskForOne : Type 0
AskForOne = (words : List (List ℕ)) (a b : Asked) → Asks words a → Asks words b → a ≡ b
