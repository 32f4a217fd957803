-- An act that neither opens nor ends a call, in the farm's own memory.
use Rattle.std.proofs.Common.{◌≡◌, sym, subst, ℕ, List}
use Rattle.std.specs.Global.{Box}
use Rattle.trau_io.specs.declared.line.Line.{Line}
use Rattle.switchboard.specs.declared.act.Act.{Act}
use Rattle.farm_rounds.specs.declared.open.OpenCall.{OpenCall}
use Rattle.farm_rounds.specs.Acts.{Applied}
use Rattle.farm_rounds.specs.Failed.{AreFailed, NoneListed}
use Rattle.farm_rounds.specs.Opens.{opens_in, calls_of, AreOpen}
use Rattle.farm_rounds.proofs.Failed.Acts.{known_after}

-- `before` are the boxes that the act had, and `now` those that it left
pub record Changed (act : Act) (most : ℕ) (live : List ℕ) (lines : List Line) (before now : List (Box OpenCall)) : Type 0 where
  pub sound : AreOpen most live (opens_in now)
  pub failed : AreFailed lines (calls_of now)
  pub applied : Applied act (calls_of before) (calls_of now)

-- what was handed to the act (`seen` and `given`) and what it left (`after`), as the farm has them
pub changed : {most : ℕ} {live seen : List ℕ} {lines : List Line} {before given after now : List (Box OpenCall)} → (act : Act) →
    seen ≡ live → given ≡ before → now ≡ after → NoneListed act lines → AreOpen most live (opens_in before) → AreFailed lines (calls_of before) →
    ((m : ℕ) → AreOpen m seen (opens_in given) → AreOpen m seen (opens_in after)) → Applied act (calls_of given) (calls_of after) →
    Changed act most live lines before now
changed {most} {live} {seen} {lines} {before} {given} {after} {now} act e f g fresh sound failed keeps applied =
    let open_after = subst (λ (ns : List ℕ). (m : ℕ) → AreOpen m ns (opens_in given) → AreOpen m ns (opens_in after)) e keeps in
    let keeps_before = subst (λ (bs : List (Box OpenCall)). AreOpen most live (opens_in bs) → AreOpen most live (opens_in after)) f (open_after most) in
    let changes = subst (λ (bs : List (Box OpenCall)). Applied act (calls_of bs) (calls_of after)) f applied in
    subst (Changed act most live lines before) (sym g) (record {
      sound = keeps_before sound;
      failed = known_after act lines (calls_of before) (calls_of after) fresh changes failed;
      applied = changes;
    })
