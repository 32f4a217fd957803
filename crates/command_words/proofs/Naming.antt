-- For crates above: words whose first is a command with options ask for that kind of command (`has_options`).
-- Words tell by the first of them what they ask for.
use Rattle.std.proofs.Common.{◌≡◌, ℕ, ◌+◌, ◌*◌, List, [], ◌∷◌, length, get_or, inl, inr, refl, sym, ◌∙◌, ap, subst}
use Rattle.std.specs.Prelude.{◌==◌, if◌then◌else◌, codes}
use Rattle.clap.specs.Words.{Text}
use Rattle.command_words.specs.declared.asked.Asked.{Asked}
use Rattle.command_words.specs.declared.asked.Asked.TheVariants.{Run, Save, Resume, Drill, Live, Relay, Frames, Encode, Decode, Follow, Split, Merge}
use Rattle.command_words.specs.declared.asked.Settings.{Settings}
use Rattle.command_words.specs.declared.live.LiveSettings.{LiveSettings}
use Rattle.command_words.specs.Asking.{Asks}
use Rattle.command_words.specs.Drill.{AsksDrill}
use Rattle.command_words.specs.Follow.{NamesFollow}
use Rattle.command_words.specs.Live.{AsksLive}
use Rattle.command_words.specs.Options.{TakeOptions}
use Rattle.command_words.specs.Run.{AsksResume, AsksRun, AsksSave}
use Rattle.command_words.specs.Slots.{NamesSlot}
use Rattle.command_words.specs.Words.{Names}

-- the kinds of what words ask for
pub data Kind : Type 0 where
  a_run : Kind
  a_save : Kind
  a_resume : Kind
  a_drill : Kind
  a_live : Kind
  a_relay : Kind
  a_frames : Kind
  an_encode : Kind
  a_decode : Kind
  a_follow : Kind
  a_split : Kind
  a_merge : Kind

abbrev pub kind_of : Asked → Kind
kind_of (Run s) = a_run
kind_of (Save s) = a_save
kind_of (Resume s) = a_resume
kind_of (Drill seed calls s) = a_drill
kind_of (Live s) = a_live
kind_of (Relay c) = a_relay
kind_of (Frames c) = a_frames
kind_of (Encode c) = an_encode
kind_of (Decode c) = a_decode
kind_of (Follow c want) = a_follow
kind_of (Split c) = a_split
kind_of (Merge c) = a_merge

-- the first word
abbrev command_of : Asked → Text
command_of (Run s) = codes "run"
command_of (Save s) = codes "save"
command_of (Resume s) = codes "resume"
command_of (Drill seed calls s) = codes "drill"
command_of (Live s) = codes "live"
command_of (Relay c) = codes "relay"
command_of (Frames c) = codes "frames"
command_of (Encode c) = codes "encode"
command_of (Decode c) = codes "decode"
command_of (Follow c want) = codes "follow"
command_of (Split c) = codes "split"
command_of (Merge c) = codes "merge"

-- commands' words differ by their length or by one of their first two letters
abbrev tag : Text → ℕ
tag word = get_or word 0 0 + 1000 * length word + 10000 * get_or word 1 0

abbrev kind_tagged : ℕ → Kind
kind_tagged t =
    if t == 1173114 then a_run else if t == 974115 then a_save else if t == 1016114 then a_resume else if t == 1145100 then a_drill else if t == 1054108 then
    a_live
    else if t == 1015114 then a_relay else if t == 1146102 then a_frames else if t == 1106101 then an_encode else if t == 1016100 then a_decode
    else if t == 1116102 then a_follow else if t == 1125115 then a_split else a_merge

abbrev pub kind_named : Text → Kind
kind_named word = kind_tagged (tag word)

pub kind_is : (a : Asked) → kind_named (command_of a) ≡ kind_of a
kind_is (Run s) = refl
kind_is (Save s) = refl
kind_is (Resume s) = refl
kind_is (Drill seed calls s) = refl
kind_is (Live s) = refl
kind_is (Relay c) = refl
kind_is (Frames c) = refl
kind_is (Encode c) = refl
kind_is (Decode c) = refl
kind_is (Follow c want) = refl
kind_is (Split c) = refl
kind_is (Merge c) = refl

first_word : (words : List Text) (a : Asked) → Asks words a → get_or words 0 [] ≡ command_of a
first_word words (Run s) asks = ap (λ l. get_or l 0 []) asks.spelled
first_word words (Save s) asks = ap (λ l. get_or l 0 []) asks.spelled
first_word words (Resume s) asks = ap (λ l. get_or l 0 []) asks.spelled
first_word words (Drill seed calls s) asks = ap (λ l. get_or l 0 []) asks.spelled
first_word words (Live s) asks = ap (λ l. get_or l 0 []) asks.spelled
first_word words (Relay c) asks = ap (λ l. get_or l 0 []) asks.spelled
first_word words (Frames c) asks = ap (λ l. get_or l 0 []) asks.spelled
first_word words (Encode c) asks = ap (λ l. get_or l 0 []) asks.spelled
first_word words (Decode c) asks = ap (λ l. get_or l 0 []) asks.spelled
first_word words (Follow c want) asks = ap (λ l. get_or l 0 []) asks.spelled
first_word words (Split c) asks = ap (λ l. get_or l 0 []) asks.spelled
first_word words (Merge c) asks = ap (λ l. get_or l 0 []) asks.spelled

kind_in : (words : List Text) (a : Asked) → Asks words a → kind_named (get_or words 0 []) ≡ kind_of a
kind_in words a asks = ap kind_named (first_word words a asks) ∙ kind_is a

-- what words ask for that ask for something of this kind
abbrev pub Means : Kind → List Text → Asked → Type 0
Means a_run words a = (s : Settings) × (AsksRun words s × (a ≡ Run s))
Means a_save words a = (s : Settings) × (AsksSave words s × (a ≡ Save s))
Means a_resume words a = (s : Settings) × (AsksResume words s × (a ≡ Resume s))
Means a_drill words a = (seed : ℕ) × ((calls : ℕ) × ((s : Settings) × (AsksDrill words seed calls s × (a ≡ Drill seed calls s))))
Means a_live words a = (s : LiveSettings) × (AsksLive words s × (a ≡ Live s))
Means a_relay words a = (c : ℕ) × (Names words (codes "relay") c × (a ≡ Relay c))
Means a_frames words a = (c : ℕ) × (Names words (codes "frames") c × (a ≡ Frames c))
Means an_encode words a = (c : ℕ) × (Names words (codes "encode") c × (a ≡ Encode c))
Means a_decode words a = (c : ℕ) × (Names words (codes "decode") c × (a ≡ Decode c))
Means a_follow words a = (c : ℕ) × ((want : ℕ) × (NamesFollow words c want × (a ≡ Follow c want)))
Means a_split words a = (c : ℕ) × (NamesSlot words (codes "split") c × (a ≡ Split c))
Means a_merge words a = (c : ℕ) × (NamesSlot words (codes "merge") c × (a ≡ Merge c))

own_kind : (words : List Text) (a : Asked) → Asks words a → Means (kind_of a) words a
own_kind words (Run s) asks = (s, (asks, refl))
own_kind words (Save s) asks = (s, (asks, refl))
own_kind words (Resume s) asks = (s, (asks, refl))
own_kind words (Drill seed calls s) asks = (seed, (calls, (s, (asks, refl))))
own_kind words (Live s) asks = (s, (asks, refl))
own_kind words (Relay c) asks = (c, (asks, refl))
own_kind words (Frames c) asks = (c, (asks, refl))
own_kind words (Encode c) asks = (c, (asks, refl))
own_kind words (Decode c) asks = (c, (asks, refl))
own_kind words (Follow c want) asks = (c, (want, (asks, refl)))
own_kind words (Split c) asks = (c, (asks, refl))
own_kind words (Merge c) asks = (c, (asks, refl))

-- what else the same words ask for is of the same kind
pub same_kind : (words : List Text) (a b : Asked) → Asks words a → Asks words b → Means (kind_of a) words b
same_kind words a b first second = subst (λ k. Means k words b) (sym (kind_in words b second) ∙ kind_in words a first) (own_kind words b second)

-- what words ask for that begin with a command's word is of the kind that the word tells
pub kind_by_word : (words options : List Text) (name : Text) (a : Asked) → words ≡ name ∷ options → Asks words a → Means (kind_named name) words a
kind_by_word words options name a is asks =
    subst (λ k. Means k words a) (sym (kind_in words a asks) ∙ ap (λ (ws : List Text). kind_named (get_or ws 0 [])) is) (own_kind words a asks)

-- it takes options
abbrev pub HasOptions : Asked → Type 0
HasOptions (Run s) = Unit {0}
HasOptions (Save s) = Unit {0}
HasOptions (Resume s) = Unit {0}
HasOptions (Drill seed calls s) = Unit {0}
HasOptions (Live s) = Unit {0}
HasOptions (Relay c) = ⊥
HasOptions (Frames c) = ⊥
HasOptions (Encode c) = ⊥
HasOptions (Decode c) = ⊥
HasOptions (Follow c want) = ⊥
HasOptions (Split c) = ⊥
HasOptions (Merge c) = ⊥

-- words that begin with a command that takes options ask for nothing else
pub has_options : (words : List Text) (a : Asked) → TakeOptions words → Asks words a → HasOptions a
has_options words a (inl (options, is)) asks = let m = kind_by_word words options (codes "run") a is asks in subst HasOptions (sym m.1.1) tt
has_options words a (inr (inl (options, is))) asks = let m = kind_by_word words options (codes "save") a is asks in subst HasOptions (sym m.1.1) tt
has_options words a (inr (inr (inl (options, is)))) asks = let m = kind_by_word words options (codes "resume") a is asks in subst HasOptions (sym m.1.1) tt
has_options words a (inr (inr (inr (inl (options, is))))) asks = let m = kind_by_word words options (codes "drill") a is asks in
    subst HasOptions (sym m.1.1.1.1) tt
has_options words a (inr (inr (inr (inr (options, is))))) asks = let m = kind_by_word words options (codes "live") a is asks in subst HasOptions (sym m.1.1) tt
