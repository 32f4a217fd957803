-- How a step of the board changes which calls are open, their laws and their partners, without the history of orders.
use Rattle.std.specs.Prelude.{◌≡◌, ℕ, ◌<◌, ◌≢◌, Bool, true, false, ◌||◌, if◌then◌else◌, ◌==◌, Option, Some, None, is_some, option_map, IfSome, IfOk, List}
use Rattle.std.specs.List.{All}
use Rattle.call_number.specs.CallNumber.{IsCallNumber}
use Rattle.trau_alaw.specs.declared.Law.{Law}
use Rattle.switchboard.specs.declared.act.Act.{Act}
use Rattle.switchboard.specs.declared.act.Act.TheVariants as act
use Rattle.switchboard.specs.declared.act.Reply.{Reply}
use Rattle.switchboard.specs.declared.table.Bridge.{Bridge}
use Rattle.switchboard.specs.Calls.{is_this, opened_at, law_at, is_open}
use Rattle.switchboard.specs.Bridges.{bridges, joins, other, bridge_of}
use Rattle.switchboard.specs.Ends.{end_now}
use Rattle.switchboard.specs.State.{State, gone_in, told_in}

-- the numbers that were ever opened
abbrev pub opened_now : State → ℕ → Bool
opened_now s c = is_some (opened_at c s.done)

-- the calls that are open
abbrev pub open_now : State → ℕ → Bool
open_now s = is_open (gone_in s) s.done

-- the law of each call
abbrev pub law_now : State → ℕ → Law
law_now s c = law_at c s.done

-- the partner of each bridged call
abbrev pub partner_now : State → ℕ → Option ℕ
partner_now s c = option_map (other c) (bridge_of (gone_in s) s.done c)

-- Only open calls have partners, a call isn't its own partner, and each is its partner's partner.
pub record ArePairs (is_open : ℕ → Bool) (partner : ℕ → Option ℕ) : Type 0 where
  pub both_ways : (c p : ℕ) → partner c ≡ Some p → partner p ≡ Some c
  pub apart : (c p : ℕ) → partner c ≡ Some p → c ≢ p
  pub both_open : (c p : ℕ) → partner c ≡ Some p → (is_open c ≡ true) × (is_open p ≡ true)

-- ---- the end of a call n, whose partner is p

abbrev pub open_without : ℕ → (ℕ → Bool) → ℕ → Bool
open_without n is_open c = if c == n then false else is_open c

-- The call and its partner, if it has one, have no partner now.
abbrev pub partner_without_both : ℕ → Option ℕ → (ℕ → Option ℕ) → ℕ → Option ℕ
partner_without_both n p partner c = if c == n || is_this c p then None else partner c

abbrev pub partner_without : ℕ → (ℕ → Option ℕ) → ℕ → Option ℕ
partner_without n partner = partner_without_both n (partner n) partner

-- ---- an accepted order

-- a reply exists, it accepts its order, and P holds of the act
abbrev pub IfAccepted : Option Reply → (Act → Type 0) → Type 0
IfAccepted answer P = IfSome answer (λ reply. IfOk reply.result P)

-- `open` opens its call
abbrev pub opened_after : Act → (ℕ → Bool) → ℕ → Bool
opened_after (act.Opened n law) opened c = c == n || opened c
opened_after _ opened c = opened c

-- `open` opens its call, and `close` ends it.
abbrev pub open_after : Act → (ℕ → Bool) → ℕ → Bool
open_after (act.Opened n law) is_open c = c == n || is_open c
open_after (act.Closed n p) is_open c = open_without n is_open c
open_after _ is_open c = is_open c

-- `open` gives its call the law that it names.
abbrev pub law_after : Act → (ℕ → Law) → ℕ → Law
law_after (act.Opened n law) laws c = if c == n then law else laws c
law_after _ laws c = laws c

-- `bridge` makes two calls partners. `unbridge` parts them, and so does `close` of a bridged call.
abbrev pub partner_after : Act → (ℕ → Option ℕ) → ℕ → Option ℕ
partner_after (act.Closed n p) partner c = partner_without_both n p partner c
partner_after (act.Bridged a b) partner c =
    if c == a then Some b else if c == b then Some a else partner c
partner_after (act.Unbridged a b) partner c = partner_without_both a (Some b) partner c
partner_after _ partner c = partner c

-- What an accepted order finds: a new number, or open calls. Calls to be bridged have no partners; calls to be parted
-- are each other's partners.
abbrev pub Finds : Act → (ℕ → Bool) → (ℕ → Bool) → (ℕ → Option ℕ) → Type 0
Finds (act.Opened n law) opened is_open partner = IsCallNumber n × (opened n ≡ false)
Finds (act.Closed n p) opened is_open partner = (is_open n ≡ true) × (partner n ≡ p)
Finds (act.Bridged a b) opened is_open partner = (a ≢ b) × ((is_open a ≡ true) × (is_open b ≡ true))
    × ((partner a ≡ None) × (partner b ≡ None))
Finds (act.Unbridged a b) opened is_open partner = ((is_open a ≡ true) × (is_open b ≡ true))
    × ((partner a ≡ Some b) × (partner b ≡ Some a))
Finds (act.LevelSet n v) opened is_open partner = is_open n ≡ true
Finds (act.DtxSet n m) opened is_open partner = is_open n ≡ true

-- What an accepted order finds, but for which numbers were ever opened: what is known of a board by its open calls
-- alone.
abbrev pub FindsOpen : Act → (ℕ → Bool) → (ℕ → Option ℕ) → Type 0
FindsOpen (act.Opened n law) is_open partner = is_open n ≡ false
FindsOpen (act.Unbridged a b) is_open partner = partner a ≡ Some b
FindsOpen x is_open partner = Finds x is_open is_open partner

-- A bridge ended before period t, by an order or a reported end, and no order of stamp t ended it.
pub record HasEnded (told : ℕ → Option ℕ) (t : ℕ) (x : Bridge) : Type 0 where
  pub at : ℕ
  pub ended : end_now told x ≡ Some at
  pub before : at < t
  pub no_order : x.ended ≢ Some t

-- all earlier bridges of a call have ended
abbrev pub HasRested : (ℕ → Option ℕ) → List Bridge → ℕ → ℕ → Type 0
HasRested told xs t c = All (λ x. joins c x ≡ true → HasEnded told t x) xs

-- `bridge` at period t joins calls whose earlier bridges have ended.
abbrev pub Rests : Act → (ℕ → Option ℕ) → List Bridge → ℕ → Type 0
Rests (act.Bridged a b) told xs t = HasRested told xs t a × HasRested told xs t b
Rests _ told xs t = Unit {0}

-- What an accepted order of period t finds, and how it changes which numbers were opened, which calls are open, their
-- laws and their partners.
pub record IsExecuted (old new : State) (t : ℕ) (a : Act) : Type 0 where
  pub finds : Finds a (opened_now old) (open_now old) (partner_now old)
  pub rests : Rests a (told_in old) (bridges old.done) t
  pub opened : (c : ℕ) → opened_now new c ≡ opened_after a (opened_now old) c
  pub is_open : (c : ℕ) → open_now new c ≡ open_after a (open_now old) c
  pub law : (c : ℕ) → law_now new c ≡ law_after a (law_now old) c
  pub partner : (c : ℕ) → partner_now new c ≡ partner_after a (partner_now old) c

-- ---- no change

-- the same numbers were opened, the same calls are open, and each has the same law and partner
pub record IsAsBefore (old new : State) : Type 0 where
  pub opened : (c : ℕ) → opened_now new c ≡ opened_now old c
  pub is_open : (c : ℕ) → open_now new c ≡ open_now old c
  pub law : (c : ℕ) → law_now new c ≡ law_now old c
  pub partner : (c : ℕ) → partner_now new c ≡ partner_now old c
