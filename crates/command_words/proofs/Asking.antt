-- For crates above: words ask for at most one thing (`one_asked`).
use Rattle.std.proofs.Common.{◌≡◌, ℕ, ◌-◌, ◌^◌, ◌<◌, ◌≤◌, List, [], ◌∷◌, Option, length, get_or, map, take, drop, sym, ◌∙◌, ap, subst, arith}
use Rattle.std.proofs.lemmas.List.{take_all}
use Rattle.std.specs.Prelude.{codes, decimal}
use Rattle.std.proofs.lemmas.Fmt.{decimal_injective}
use Rattle.clap.specs.Words.{Text, matches_of, first_of}
use Rattle.decimal_number.specs.Number.{IsNumber}
use Rattle.command_words.specs.declared.asked.Asked.{Asked}
use Rattle.command_words.specs.declared.asked.Asked.TheVariants.{Run, Save, Resume, Drill, Live, Relay, Frames, Encode, Decode, Follow, Split, Merge}
use Rattle.command_words.specs.declared.asked.Settings.{Settings}
use Rattle.command_words.specs.declared.live.LiveSettings.{LiveSettings}
use Rattle.command_words.specs.Asking.{IsToolOn, AsksTool, Asks, AskForOne}
use Rattle.command_words.specs.Options.{GivesSettings}
use Rattle.command_words.specs.Run.{run_app, AreOptions, GivePeriods}
use Rattle.command_words.specs.Drill.{drill_app, AreDrillOptions, GivesDrill}
use Rattle.command_words.specs.Live.{live_app, AreLiveOptions, GivesLive}
use Rattle.command_words.specs.Slots.{AsksSlot, IsSlotOn, NamesSlot}
use Rattle.command_words.specs.Words.{Names}
use Rattle.command_words.specs.Follow.{NamesFollow}
use Rattle.command_words.proofs.Following.{one_follow}
use Rattle.command_words.proofs.Naming.{kind_by_word, same_kind}
use Rattle.command_words.proofs.Living.{one_live_of}
use Rattle.command_words.proofs.Matched.{one_value}

-- a list of two
pub two : {A B : Type 0} (f : A → B) (xs : List A) (a b : A) → length xs ≡ 2 → a ≡ get_or xs 0 a → b ≡ get_or xs 1 b → map f xs ≡ f a ∷ f b ∷ []
two f [] a b long first second = absurd (omega arith)
two f (x ∷ []) a b long first second = absurd (omega arith)
two f (x ∷ y ∷ []) a b long first second = cc
two f (x ∷ y ∷ z ∷ xs) a b long first second = absurd (omega arith)

-- a list with a head
pub headed : {A B : Type 0} (f : A → B) (xs : List A) (a : A) → 1 ≤ length xs → a ≡ get_or xs 0 a → map f xs ≡ f a ∷ map f (take (length xs - 1) (drop 1 xs))
headed f [] a long is = absurd (omega arith)
headed f (x ∷ xs) a long is =
    let count : length (x ∷ xs) - 1 ≡ length xs = omega arith in
    let rest : take (length (x ∷ xs) - 1) xs ≡ xs = ap (λ n. take n xs) count ∙ take_all (length xs) xs (omega arith) in
    λ i. f (sym is i) ∷ map f (sym rest i)

-- a list without one, and a list with another head
pub not_headed : {A B : Type 0} (f : A → B) (xs : List A) (y : B) (ys : List B) → length xs < 1 → map f xs ≡ y ∷ ys → ⊥
not_headed f [] y ys short e = cc
not_headed f (x ∷ xs) y ys short e = absurd (omega arith)

pub same_head : {A B : Type 0} (f : A → B) (xs : List A) (a : A) (y : B) (ys : List B) → 1 ≤ length xs → a ≡ get_or xs 0 a → map f xs ≡ y ∷ ys → f a ≡ y
same_head f [] a y ys long is e = absurd (omega arith)
same_head f (x ∷ xs) a y ys long is e = cc

-- a tool's two words
named : (words : List Text) (name number command : Text) (c call : ℕ) → words ≡ name ∷ number ∷ [] → IsNumber 1 4096 number call → Names words command c →
    (name ≡ command) × (c ≡ call)
named words name number command c call are is names =
    let spelled = names.spelled in
    let same : name ≡ command = cc in
    let digits : number ≡ decimal c = cc in
    (same, decimal_injective c call (omega (arith, names.high)) (omega (arith, is.at_most)) (sym digits ∙ is.spelled))

pub tool_on : (words : List Text) (name number : Text) (a : Asked) (call : ℕ) → words ≡ name ∷ number ∷ [] → IsNumber 1 4096 number call → AsksTool words a →
    IsToolOn a name call
tool_on words name number (Run s) call are is asks = absurd asks
tool_on words name number (Save s) call are is asks = absurd asks
tool_on words name number (Resume s) call are is asks = absurd asks
tool_on words name number (Drill seed calls s) call are is asks = absurd asks
tool_on words name number (Live s) call are is asks = absurd asks
tool_on words name number (Relay c) call are is asks = named words name number _ c call are is asks
tool_on words name number (Frames c) call are is asks = named words name number _ c call are is asks
tool_on words name number (Encode c) call are is asks = named words name number _ c call are is asks
tool_on words name number (Decode c) call are is asks = named words name number _ c call are is asks
tool_on words name number (Follow c want) call are is asks = absurd asks
tool_on words name number (Split c) call are is asks = absurd asks
tool_on words name number (Merge c) call are is asks = absurd asks

-- the two words of a command on a slot
named_slot : (words : List Text) (name number command : Text) (c call : ℕ) → words ≡ name ∷ number ∷ [] → IsNumber 1 4093 number call →
    NamesSlot words command c → (name ≡ command) × (c ≡ call)
named_slot words name number command c call are is names =
    let spelled = names.spelled in
    let same : name ≡ command = cc in
    let digits : number ≡ decimal c = cc in
    (same, decimal_injective c call (omega (arith, names.high)) (omega (arith, is.at_most)) (sym digits ∙ is.spelled))

pub slot_on : (words : List Text) (name number : Text) (a : Asked) (call : ℕ) → words ≡ name ∷ number ∷ [] → IsNumber 1 4093 number call → AsksSlot words a →
    IsSlotOn a name call
slot_on words name number (Run s) call are is asks = absurd asks
slot_on words name number (Save s) call are is asks = absurd asks
slot_on words name number (Resume s) call are is asks = absurd asks
slot_on words name number (Drill seed calls s) call are is asks = absurd asks
slot_on words name number (Live s) call are is asks = absurd asks
slot_on words name number (Relay c) call are is asks = absurd asks
slot_on words name number (Frames c) call are is asks = absurd asks
slot_on words name number (Encode c) call are is asks = absurd asks
slot_on words name number (Decode c) call are is asks = absurd asks
slot_on words name number (Follow c want) call are is asks = absurd asks
slot_on words name number (Split c) call are is asks = named_slot words name number _ c call are is asks
slot_on words name number (Merge c) call are is asks = named_slot words name number _ c call are is asks

-- words that ask for nothing of any kind ask for nothing
pub no_asked : (words : List Text) → ((options : List Text) → words ≡ codes "run" ∷ options → ⊥) →
    ((options : List Text) → words ≡ codes "save" ∷ options → ⊥) →
    ((options : List Text) → words ≡ codes "resume" ∷ options → ⊥) → ((options : List Text) → words ≡ codes "drill" ∷ options → ⊥) →
    ((options : List Text) → words ≡ codes "live" ∷ options → ⊥) →
    ((a : Asked) → AsksTool words a → ⊥) → ((call want : ℕ) → NamesFollow words call want → ⊥) → ((a : Asked) → AsksSlot words a → ⊥) → (a : Asked) →
    Asks words a → ⊥
no_asked words no_run no_save no_resume no_drill no_live no_tool no_follow no_slot (Run s) asks = no_run asks.options asks.spelled
no_asked words no_run no_save no_resume no_drill no_live no_tool no_follow no_slot (Save s) asks = no_save asks.options asks.spelled
no_asked words no_run no_save no_resume no_drill no_live no_tool no_follow no_slot (Resume s) asks = no_resume asks.options asks.spelled
no_asked words no_run no_save no_resume no_drill no_live no_tool no_follow no_slot (Drill seed calls s) asks = no_drill asks.options asks.spelled
no_asked words no_run no_save no_resume no_drill no_live no_tool no_follow no_slot (Live s) asks = no_live asks.options asks.spelled
no_asked words no_run no_save no_resume no_drill no_live no_tool no_follow no_slot (Relay c) asks = no_tool (Relay c) asks
no_asked words no_run no_save no_resume no_drill no_live no_tool no_follow no_slot (Frames c) asks = no_tool (Frames c) asks
no_asked words no_run no_save no_resume no_drill no_live no_tool no_follow no_slot (Encode c) asks = no_tool (Encode c) asks
no_asked words no_run no_save no_resume no_drill no_live no_tool no_follow no_slot (Decode c) asks = no_tool (Decode c) asks
no_asked words no_run no_save no_resume no_drill no_live no_tool no_follow no_slot (Follow c want) asks = no_follow c want asks
no_asked words no_run no_save no_resume no_drill no_live no_tool no_follow no_slot (Split c) asks = no_slot (Split c) asks
no_asked words no_run no_save no_resume no_drill no_live no_tool no_follow no_slot (Merge c) asks = no_slot (Merge c) asks

-- words that begin with a command that takes options and don't give its options ask for nothing
pub no_run : (words options : List Text) → words ≡ codes "run" ∷ options → ((s : Settings) → AreOptions options s → ⊥) → (a : Asked) → Asks words a → ⊥
no_run words options is none a asks =
    let m = kind_by_word words options (codes "run") a is asks in
    let also = m.1.0.spelled in
    let same : m.1.0.options ≡ options = cc in
    none m.0 (subst (λ (os : List Text). AreOptions os m.0) same m.1.0.are)

pub no_save : (words options : List Text) → words ≡ codes "save" ∷ options → ((s : Settings) → AreOptions options s → GivePeriods options → ⊥) → (a : Asked) →
    Asks words a → ⊥
no_save words options is none a asks =
    let m = kind_by_word words options (codes "save") a is asks in
    let also = m.1.0.spelled in
    let same : m.1.0.options ≡ options = cc in
    none m.0 (subst (λ (os : List Text). AreOptions os m.0) same m.1.0.are) (subst (λ (os : List Text). GivePeriods os) same m.1.0.marked)

pub no_resume : (words options : List Text) → words ≡ codes "resume" ∷ options → ((s : Settings) → AreOptions options s → ⊥) → (a : Asked) → Asks words a →
    ⊥
no_resume words options is none a asks =
    let m = kind_by_word words options (codes "resume") a is asks in
    let also = m.1.0.spelled in
    let same : m.1.0.options ≡ options = cc in
    none m.0 (subst (λ (os : List Text). AreOptions os m.0) same m.1.0.are)

pub no_drill : (words options : List Text) → words ≡ codes "drill" ∷ options → ((seed calls : ℕ) (s : Settings) → AreDrillOptions options seed calls s → ⊥) →
    (a : Asked) → Asks words a → ⊥
no_drill words options is none a asks =
    let m = kind_by_word words options (codes "drill") a is asks in
    let drill = m.1.1.1.0 in
    let also = drill.spelled in
    let same : drill.options ≡ options = cc in
    none m.0 m.1.0 m.1.1.0 (subst (λ (os : List Text). AreDrillOptions os m.0 m.1.0 m.1.1.0) same drill.are)

pub no_live : (words options : List Text) → words ≡ codes "live" ∷ options → ((s : LiveSettings) → AreLiveOptions options s → ⊥) → (a : Asked) → Asks words a →
    ⊥
no_live words options is none a asks =
    let m = kind_by_word words options (codes "live") a is asks in
    let also = m.1.0.spelled in
    let same : m.1.0.options ≡ options = cc in
    none m.0 (subst (λ (os : List Text). AreLiveOptions os m.0) same m.1.0.are)

-- options give one thing
one_settings : (most default : ℕ) (text_of : Text → Option Text) (s t : Settings) → most < 2 ^ 32 → GivesSettings most default text_of s →
    GivesSettings most default text_of t → s ≡ t
one_settings most default text_of s t small first second =
    let workers = one_value _ 1 64 4 s.workers t.workers (omega arith) first.workers second.workers in
    let batch = one_value _ 1 250 50 s.batch t.batch (omega arith) first.batch second.batch in
    let slice = one_value _ 1 250 5 s.slice t.slice (omega arith) first.slice second.slice in
    let periods = one_value _ 1 most default s.periods t.periods small first.periods second.periods in
    λ i. record { workers = workers i; batch = batch i; slice = slice i; periods = periods i }

one_run : (words options others : List Text) (name : Text) (s t : Settings) → words ≡ name ∷ options → words ≡ name ∷ others → AreOptions options s →
    AreOptions others t → s ≡ t
one_run words options others name s t is also first second =
    let same : others ≡ options = cc in
    one_settings 4294967295 4294967295 _ s t (omega arith) first.gives
    (subst (λ os. GivesSettings 4294967295 4294967295 (λ name. first_of name (matches_of run_app os)) t) same second.gives)

one_drill : (words options others : List Text) (name : Text) (m n c d : ℕ) (s t : Settings) → words ≡ name ∷ options → words ≡ name ∷ others →
    AreDrillOptions options m c s → AreDrillOptions others n d t → (m ≡ n) × ((c ≡ d) × (s ≡ t))
one_drill words options others name m n c d s t is also first second =
    let same : others ≡ options = cc in
    let one = first.gives in
    let other = subst (λ os. GivesDrill (λ name. first_of name (matches_of drill_app os)) n d t) same second.gives in (
      one_value _ 0 4294967295 1 m n (omega arith) one.seed other.seed,
      (
        one_value _ 1 256 64 c d (omega arith) one.calls other.calls,
        one_settings 1000 200 _ s t (omega arith) one.settings other.settings,
      ),
    )

one_live : (words options others : List Text) (name : Text) (s t : LiveSettings) → words ≡ name ∷ options → words ≡ name ∷ others → AreLiveOptions options s →
    AreLiveOptions others t → s ≡ t
one_live words options others name s t is also first second =
    let same : others ≡ options = cc in
    one_live_of _ s t first.gives (subst (λ os. GivesLive (λ name. first_of name (matches_of live_app os)) t) same second.gives)

-- and so does a number
one_number_of : (words : List Text) (name : Text) (m n : ℕ) → m ≤ 4096 → n ≤ 4096 → words ≡ name ∷ decimal m ∷ [] → words ≡ name ∷ decimal n ∷ [] → m ≡ n
one_number_of words name m n small low is also =
    let numbers : decimal m ≡ decimal n = cc in
    decimal_injective m n (omega (arith, small)) (omega (arith, low)) numbers

one_call : (words : List Text) (name : Text) (m n : ℕ) → Names words name m → Names words name n → m ≡ n
one_call words name m n first second = one_number_of words name m n first.high second.high first.spelled second.spelled

one_slot : (words : List Text) (name : Text) (m n : ℕ) → NamesSlot words name m → NamesSlot words name n → m ≡ n
one_slot words name m n first second = one_number_of words name m n (omega (arith, first.high)) (omega (arith, second.high)) first.spelled second.spelled

-- **So words ask for one thing.**
pub one_asked : AskForOne
one_asked words (Run s) b first second =
    let m = same_kind words (Run s) b first second in
    ap Run (one_run words first.options m.1.0.options _ s m.0 first.spelled m.1.0.spelled first.are m.1.0.are) ∙ sym m.1.1
one_asked words (Save s) b first second =
    let m = same_kind words (Save s) b first second in
    ap Save (one_run words first.options m.1.0.options _ s m.0 first.spelled m.1.0.spelled first.are m.1.0.are) ∙ sym m.1.1
one_asked words (Resume s) b first second =
    let m = same_kind words (Resume s) b first second in
    ap Resume (one_run words first.options m.1.0.options _ s m.0 first.spelled m.1.0.spelled first.are m.1.0.are) ∙ sym m.1.1
one_asked words (Drill seed calls s) b first second =
    let m = same_kind words (Drill seed calls s) b first second in
    let drill = m.1.1.1.0 in
    let one = one_drill words first.options drill.options _ seed m.0 calls m.1.0 s m.1.1.0 first.spelled drill.spelled first.are drill.are in
    (λ i. Drill (one.0 i) (one.1.0 i) (one.1.1 i)) ∙ sym m.1.1.1.1
one_asked words (Live s) b first second =
    let m = same_kind words (Live s) b first second in
    ap Live (one_live words first.options m.1.0.options _ s m.0 first.spelled m.1.0.spelled first.are m.1.0.are) ∙ sym m.1.1
one_asked words (Relay c) b first second = let m = same_kind words (Relay c) b first second in ap Relay (one_call words _ c m.0 first m.1.0) ∙ sym m.1.1
one_asked words (Frames c) b first second = let m = same_kind words (Frames c) b first second in ap Frames (one_call words _ c m.0 first m.1.0) ∙ sym m.1.1
one_asked words (Encode c) b first second = let m = same_kind words (Encode c) b first second in ap Encode (one_call words _ c m.0 first m.1.0) ∙ sym m.1.1
one_asked words (Decode c) b first second = let m = same_kind words (Decode c) b first second in ap Decode (one_call words _ c m.0 first m.1.0) ∙ sym m.1.1
one_asked words (Follow c want) b first second =
    let m = same_kind words (Follow c want) b first second in
    let one = one_follow words c m.0 want m.1.0 first m.1.1.0 in
    (λ i. Follow (one.0 i) (one.1 i)) ∙ sym m.1.1.1
one_asked words (Split c) b first second = let m = same_kind words (Split c) b first second in ap Split (one_slot words _ c m.0 first m.1.0) ∙ sym m.1.1
one_asked words (Merge c) b first second = let m = same_kind words (Merge c) b first second in ap Merge (one_slot words _ c m.0 first m.1.0) ∙ sym m.1.1
