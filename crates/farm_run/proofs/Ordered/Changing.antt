-- What an order makes of what each call has had.
use Rattle.std.proofs.Common.{◌≡◌, refl, sym, ap, ℕ, Bool, true, false, ◌||◌, Option, Some, None, List, inl, inr}
use Rattle.std.specs.Prelude.{if◌then◌else◌, ◌==◌, option_map, Ok}
use Rattle.std.proofs.lemmas.Bool.{cases_eq, ne_eqb}
use Rattle.trau_alaw.specs.declared.Law.{Law}
use Rattle.switchboard.specs.declared.act.Act.{Act}
use Rattle.switchboard.specs.declared.act.Act.TheVariants as act
use Rattle.switchboard.specs.Calls.{is_this}
use Rattle.switchboard.specs.Open.{open_after}
use Rattle.farm_rounds.specs.Acts.{change_partner}
use Rattle.farm_rounds.specs.Histories.{set_now, histories_after}
use Rattle.call_leg.specs.Periods.{CallPeriod}
use Rattle.call_leg.specs.Settings.{Settings, with_level, with_mode, with_bridge, without_bridge}
use Rattle.run_spec.specs.Now.{changed_by}
use Rattle.farm_run.specs.Match.{past_if}

-- a setting of an open call, where a test says so
set_if : (t : Bool) (g : Settings → Settings) (o : Bool) (l : Law) (ts : List CallPeriod) (now : Settings) →
    (if t then option_map (set_now g) (past_if o l ts now) else past_if o l ts now) ≡ past_if o l ts (if t then g now else now)
set_if true g true l ts now = refl
set_if true g false l ts now = refl
set_if false g o l ts now = refl

-- a setting of an open call, where one of two tests says so; twice is as once
set_twice : (t u : Bool) (g : Settings → Settings) (o : Bool) (l : Law) (ts : List CallPeriod)
    (now : Settings) → ((s : Settings) → g (g s) ≡ g s) →
    (let x = if u then option_map (set_now g) (past_if o l ts now) else past_if o l ts now in if t then option_map (set_now g) x else x)
    ≡ past_if o l ts (if t || u then g now else now)
set_twice true true g true l ts now once = ap (past_if true l ts) (once now)
set_twice true true g false l ts now once = refl
set_twice true false g o l ts now once = set_if true g o l ts now
set_twice false u g o l ts now once = set_if u g o l ts now

-- what an order other than the one that opens it makes of a call's history, by whether it is open then
pub history_by : (a : Act) (f : ℕ → Bool) (l : ℕ → Law) (ts : ℕ → List CallPeriod) (now : ℕ → Settings) (c : ℕ) →
    ((n : ℕ) (law : Law) → a ≡ act.Opened n law → n ≡ c → ⊥) →
    histories_after a (λ c. past_if (f c) (l c) (ts c) (now c)) c ≡ past_if (open_after a f c) (l c) (ts c) (changed_by c (Ok a) (now c))
history_by (act.Opened n law) f l ts now c other = elim (cases_eq c n) [
  | inl e ↦ absurd (other n law refl (sym e))
  | inr q ↦ simp (ne_eqb c n q) refl
]
history_by (act.Closed n p) f l ts now c other = by (c == n) p
  where
    by : (t : Bool) (p : Option ℕ) →
        (if t then None else change_partner p (set_now without_bridge) (λ c. past_if (f c) (l c) (ts c) (now c)) c)
        ≡ past_if (if t then false else f c) (l c) (ts c) (if t || is_this c p then without_bridge (now c) else now c)
    by true p = refl
    by false None = refl
    by false (Some m) = set_if (c == m) without_bridge (f c) (l c) (ts c) (now c)
history_by (act.Bridged a b) f l ts now c other =
    set_twice (c == a) (c == b) with_bridge (f c) (l c) (ts c) (now c) (λ s. refl)
history_by (act.Unbridged a b) f l ts now c other =
    set_twice (c == a) (c == b) without_bridge (f c) (l c) (ts c) (now c) (λ s. refl)
history_by (act.LevelSet n level) f l ts now c other = set_if (c == n) (with_level level) (f c) (l c) (ts c) (now c)
history_by (act.DtxSet n mode) f l ts now c other = set_if (c == n) (with_mode mode) (f c) (l c) (ts c) (now c)
