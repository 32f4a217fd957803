-- What is set for a place, and what a half stands for there, where a bridge ends at place m.
use Rattle.std.proofs.Common.{◌≡◌, ◌==◌, ◌&&◌, ℕ, suc, ◌<◌, ◌≤◌, ltb, Bool, true, false, if◌then◌else◌, Option, List, refl, sym, ap, subst, ◌∙◌, ⊎_elim, arith}
use Rattle.std.proofs.Math.Bool.{and-true, and-false}
use Rattle.std.proofs.lemmas.Bool.{cases_lt}
use Rattle.call_leg.specs.Settings.{Settings, settings_later, settings_at, without_bridge, period_with}
use Rattle.call_pair.specs.History.{settings_past}
use Rattle.call_pair.proofs.Places.{is_below, not_below, is_same, is_past, is_before}
use Rattle.call_pair.proofs.RunsAlone.{still-bridged}
use Rattle.call_pair.proofs.Runs.{set-past}

-- ---- what is set for a place, where a bridge ends at place m

abbrev pub set_for : ℕ → ℕ → Settings → Settings
set_for m k now = if ltb k m then settings_at k now else without_bridge (settings_at k now)

-- before place m the settings of the round's start are in force, and from there on those without the bridge
set-within : (m k : ℕ) (now : Settings) → k < m → set_for m k now ≡ settings_at k now
set-within m k now l = ap (λ (x : Bool). if x then settings_at k now else without_bridge (settings_at k now)) (is_below k m l)

set-behind : (m k : ℕ) (now : Settings) → m ≤ k → set_for m k now ≡ without_bridge (settings_at k now)
set-behind m k now g = ap (λ (x : Bool). if x then settings_at k now else without_bridge (settings_at k now)) (not_below k m g)

-- a bridge is on at a place before m
pub set-flag : (m k : ℕ) (now : Settings) → (set_for m k now).bridged ≡ (now.bridged && ltb k m)
set-flag m k now = ⊎_elim
    (λ (l : k < m). ap (λ (s : Settings). s.bridged) (set-within m k now l) ∙ still-bridged k now ∙ sym (and-true now.bridged)
    ∙ sym (ap (λ (x : Bool). now.bridged && x) (is_below k m l)))
    (λ (g : m ≤ k). ap (λ (s : Settings). s.bridged) (set-behind m k now g) ∙ sym (and-false now.bridged)
    ∙ sym (ap (λ (x : Bool). now.bridged && x) (not_below k m g)))
    (cases_lt k m)

-- after a place of a half, those that its history has for the next one
pub set-next : (m k : ℕ) (now : Settings) → settings_later (set_for m k now) ≡ settings_past (suc k) m now
set-next m k now = ⊎_elim
    (λ (l : k < m). ap settings_later (set-within m k now l) ∙ sym (set-past (suc k) m now false (not_below m (suc k) (omega arith))))
    (λ (g : m ≤ k). ap settings_later (set-behind m k now g) ∙ sym (set-past (suc k) m now true (is_below m (suc k) (omega arith))))
    (cases_lt k m)

-- a period has the level, the mode and the start of a bridge, whether it goes on or not
pub set-period : (m k : ℕ) (now : Settings) (up pcm : List ℕ) (x : Option (List ℕ)) → period_with (set_for m k now) up pcm x
    ≡ period_with (settings_at k now) up pcm x
set-period m k now up pcm x =
    ⊎_elim (λ (l : k < m). ap (λ (s : Settings). period_with s up pcm x) (set-within m k now l)) (λ (g : m ≤ k). ap (λ (s : Settings). period_with s up pcm x)
    (set-behind m k now g)) (cases_lt k m)

-- ---- a half whose bridge ends at place m

-- where no bridge is on, the one without it is the same
off-same : (now : Settings) → now.bridged ≡ false → now ≡ without_bridge now
off-same now e = ap (λ (b : Bool). record { level = now.level; mode = now.mode; starts = now.starts; bridged = b }) e

module _ {X : Type 0} (flag : X → Bool) (off : X → X) (S : Settings → X → Type 0) (flag-is : (now : Settings) (x : X) → S now x → flag x ≡ now.bridged)
    (off-is : (now : Settings) (x : X) → flag x ≡ true → S now x → S (without_bridge now) (off x)) where
  abbrev before : ℕ → ℕ → X → X
  before m k x = if flag x && k == m then off x else x

  stays : (m k : ℕ) (x : X) → (k == m) ≡ false → before m k x ≡ x
  stays m k x e = ap (λ (t : Bool). if flag x && t then off x else x) e ∙ go (flag x)
    where
      go : (b : Bool) → (if b && false then off x else x) ≡ x
      go true = refl
      go false = refl

  ends : (m k : ℕ) (now : Settings) (x : X) → S now x → (k == m) ≡ true → S (without_bridge now) (before m k x)
  ends m k now x s e = go (flag x) refl
    where
      go : (b : Bool) → flag x ≡ b → S (without_bridge now) (before m k x)
      go true f = subst (S (without_bridge now)) (sym (ap (λ (b : Bool). if b && k == m then off x else x) f ∙ ap (λ (t : Bool). if t then off x else x) e))
          (off-is now x f s)
      go false f =
          subst (S (without_bridge now)) (sym (ap (λ (b : Bool). if b && k == m then off x else x) f))
          (subst (λ (set : Settings). S set x) (off-same now (sym (flag-is now x s) ∙ f)) s)

  pub ready : (m k : ℕ) (now : Settings) (x : X) → S (settings_past k m now) x → S (set_for m k now) (before m k x)
  ready m k now x s =
      let within = λ (l : k < m).
      let s0 = subst (λ (set : Settings). S set x) (set-past k m now false (not_below m k (omega arith))) s in
      subst (λ (set : Settings). S set (before m k x)) (sym (set-within m k now l)) (subst (S (settings_at k now)) (sym (stays m k x (is_before k m l))) s0) in
      let at_end = λ (g : m ≤ k) (e : k ≤ m).
      let s0 = subst (λ (set : Settings). S set x) (set-past k m now false (not_below m k e)) s in
      subst (λ (set : Settings). S set (before m k x)) (sym (set-behind m k now g)) (ends m k (settings_at k now) x s0 (is_same k m (omega arith))) in
      let past = λ (g : m < k).
      let s0 = subst (λ (set : Settings). S set x) (set-past k m now true (is_below m k g)) s in
      let le : m ≤ k = omega arith in
      subst (λ (set : Settings). S set (before m k x)) (sym (set-behind m k now le))
      (subst (S (without_bridge (settings_at k now))) (sym (stays m k x (is_past k m g))) s0) in
      ⊎_elim within (λ (g : m ≤ k). ⊎_elim past (at_end g) (cases_lt m k)) (cases_lt k m)
