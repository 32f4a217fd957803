-- The calls between the phases of a round: what a call hears is what its partner noted, whether the partner has heard
-- or not.
use Rattle.std.proofs.Common.{◌≡◌, ◌≢◌, refl, sym, ap, ◌∙◌, ℕ, zero, suc, ◌<◌, ◌≤◌, true, Option, Some, None, List, [], ◌∷◌, length, slice_index, take, arith, inl, inr}
use Rattle.std.specs.List.{All}
use Rattle.std.specs.Global.{Box}
use Rattle.std.proofs.lemmas.Bool.{cases_lt, eq-eqb, ne_eqb}
use Rattle.std.proofs.lemmas.List.{get_or-map, length-map}
use Rattle.std.proofs.lemmas.List.Elements.{All-get_or}
use Rattle.call_leg.specs.Halves.{Note}
use Rattle.call_pair.specs.Phases.{frames_in, turn_down, with_partner, hear_from, periods_left}
use Rattle.call_pair.specs.declared.call_job.Phase.TheVariants.{First}
use Rattle.farm_rounds.specs.declared.open.OpenCall.{OpenCall}
use Rattle.farm_rounds.specs.Numbers.{is_among}
use Rattle.farm_rounds.specs.Opens.{opens_in, with_job}
use Rattle.farm_rounds.specs.Opened.{ArePaired, IsTold, Standing, standings, no_standing, no_open, open_at, open_numbered, met_beside}
use Rattle.farm_rounds.proofs.Places.Boxes.{AreChanged, opens_long, standings_long, standing_at}

-- ---- the list of the numbers, and the calls

pub listed_long : (bs : List (Box OpenCall)) (live : List ℕ) → ArePaired live (standings bs) → length live ≡ length bs
listed_long bs live paired =
    ap (λ (ns : List ℕ). length ns) paired.listed ∙ length-map (standings bs) (λ (s : Standing). s.number) ∙ standings_long bs

pub listed_at : (bs : List (Box OpenCall)) (live : List ℕ) (k : ℕ) → ArePaired live (standings bs) → k < length bs →
    slice_index live k ≡ (open_at bs k).job.io.call
listed_at bs live k paired l =
    ap (λ (ns : List ℕ). slice_index ns k) paired.listed
    ∙ get_or-map (λ (s : Standing). s.number) (standings bs) k no_standing 0 (omega (arith, standings_long bs, l))
    ∙ ap (λ (s : Standing). s.number) (standing_at bs k l)

-- a partner is another of the calls
pub partner_listed : (bs : List (Box OpenCall)) (live : List ℕ) (k d : ℕ) → ArePaired live (standings bs) → k < length bs →
    (open_at bs k).partner ≡ Some d → (is_among live d ≡ true) × (d ≢ (open_at bs k).job.io.call)
partner_listed bs live k d paired l e =
    let here = standing_at bs k l in
    let both =
    All-get_or (λ s. (d : ℕ) → s.partner ≡ Some d → (is_among live d ≡ true) × (d ≢ s.number)) (standings bs) k no_standing
    (omega (arith, standings_long bs, l)) paired.partners d (ap (λ (s : Standing). s.partner) here ∙ e) in
    (both.0, λ q. both.1 (q ∙ sym (ap (λ (s : Standing). s.number) here)))

-- the call with a number, by its place
opens_numbered : (bs : List (Box OpenCall)) (k d : ℕ) → k < length bs → (open_at bs k).job.io.call ≡ d →
    ((j : ℕ) → j < k → (open_at bs j).job.io.call ≢ d) → open_numbered (opens_in bs) d ≡ open_at bs k
opens_numbered [] k d l e apart = absurd (omega arith)
opens_numbered (b ∷ bs) zero d l e apart = rw (eq-eqb b.value.job.io.call d e) refl
opens_numbered (b ∷ bs) (suc k) d l e apart = rw (ne_eqb b.value.job.io.call d (apart 0 (omega arith)))
    (opens_numbered bs k d (omega arith) e (λ j lj. apart (suc j) (omega (arith, lj))))

pub found_at : (bs : List (Box OpenCall)) (live : List ℕ) (k d : ℕ) → ArePaired live (standings bs) → k < length bs → slice_index live k ≡ d →
    open_numbered (opens_in bs) d ≡ open_at bs k
found_at bs live k d paired l e =
    opens_numbered bs k d l (sym (listed_at bs live k paired l) ∙ e) (λ j lj q. absurd (
    let rises = paired.rising j k lj (omega (arith, listed_long bs live paired, l)) in
    let same = listed_at bs live j paired (omega (arith, lj, l)) in
    omega (arith, rises, same, q, e)))

-- ---- some of them have heard

-- each of the first n calls has heard its partner
abbrev pub AreMet : List (Box OpenCall) → List (Box OpenCall) → ℕ → Type 0
AreMet before now n = AreChanged (λ k o. met_beside (opens_in before) o o.partner) before now n

met_notes : (opens : List OpenCall) (o : OpenCall) (p : Option ℕ) → (met_beside opens o p).job.notes ≡ o.job.notes
met_notes opens o None = refl
met_notes opens o (Some d) = refl

-- whoever has heard, the notes are as they were
pub notes_kept : (before now : List (Box OpenCall)) (n k : ℕ) → AreMet before now n → (open_at now k).job.notes ≡ (open_at before k).job.notes
notes_kept before now n k m = elim (cases_lt k n) [
  | inl less ↦ ap (λ (o : OpenCall). o.job.notes) (m.done k less) ∙ met_notes (opens_in before) (open_at before k) (open_at before k).partner
  | inr more ↦ ap (λ (o : OpenCall). o.job.notes) (m.left k more)
]

-- what a call hears depends on the notes alone
pub heard_notes : (o p q : OpenCall) → p.job.notes ≡ q.job.notes → with_job o (hear_from p.job o.job) ≡ with_job o (hear_from q.job o.job)
heard_notes o p q e = ap (λ (ns : List Note). with_job o (turn_down (with_partner (take o.job.bridge_end (frames_in ns)) o.job))) e

pub told_at : (bs : List (Box OpenCall)) (k : ℕ) → All (IsTold (opens_in bs)) (opens_in bs) → k < length bs → IsTold (opens_in bs) (open_at bs k)
told_at bs k told l = All-get_or (IsTold (opens_in bs)) (opens_in bs) k no_open (omega (arith, opens_long bs, l)) told

-- a call with no partner, and one with a partner
pub met_alone : (opens : List OpenCall) (o : OpenCall) (p : Option ℕ) → p ≡ None → met_beside opens o p ≡ with_job o (turn_down o.job)
met_alone opens o p e = ap (met_beside opens o) e

pub met_partner : (opens : List OpenCall) (o : OpenCall) (p : Option ℕ) (d : ℕ) → p ≡ Some d →
    met_beside opens o p ≡ with_job o (hear_from (open_numbered opens d).job o.job)
met_partner opens o p d e = ap (met_beside opens o) e

-- ---- the next one

-- a call can hear the one at place f
pub record CanMeet (now : List (Box OpenCall)) (k f : ℕ) : Type 0 where
  pub from : f < length now
  pub apart : k ≢ f
  pub first : (open_at now k).job.phase ≡ First
  pub finished : periods_left (open_at now k).job ≡ 0
  pub told : (open_at now k).job.bridge_end ≤ length (open_at now f).job.notes
  pub none : (open_at now k).job.partner ≡ []

-- the partner of the next call is another of them, and can be met
pub next_present : (before now : List (Box OpenCall)) (live : List ℕ) (k d : ℕ) →
    ArePaired live (standings before) → AreMet before now k → k < length now → (open_at now k).partner ≡ Some d →
    (is_among live d ≡ true) × (d ≢ (open_at before k).job.io.call)
next_present before now live k d paired m l partner =
    partner_listed before live k d paired (omega (arith, l, m.long)) (ap (λ (o : OpenCall). o.partner) (sym (m.left k (omega arith))) ∙ partner)

-- its notes, found by its number
partner_notes : (before now : List (Box OpenCall)) (live : List ℕ) (k f d : ℕ) → ArePaired live (standings before) → AreMet before now k →
    f < length before → slice_index live f ≡ d → (open_at now f).job.notes ≡ (open_numbered (opens_in before) d).job.notes
partner_notes before now live k f d paired m l e =
    notes_kept before now k f m ∙ sym (ap (λ (o : OpenCall). o.job.notes) (found_at before live f d paired l e))

pub next_meets : (before now : List (Box OpenCall)) (live : List ℕ) (k f d : ℕ) → ArePaired live (standings before) →
    All (IsTold (opens_in before)) (opens_in before) → AreMet before now k → k < length now → (open_at now k).partner ≡ Some d →
    f < length live → slice_index live f ≡ d → CanMeet now k f
next_meets before now live k f d paired all m l partner lf number =
    let within : k < length before = omega (arith, l, m.long) in
    let inside : f < length before = omega (arith, lf, listed_long before live paired) in
    let same : open_at now k ≡ open_at before k = m.left k (omega arith) in
    let told = told_at before k all within in
    let other = next_present before now live k d paired m l partner in
    let end = ap (λ (o : OpenCall). o.job.bridge_end) same in
    let notes = ap (λ (ns : List Note). length ns) (partner_notes before now live k f d paired m inside number) in
    let long = told.within d (ap (λ (o : OpenCall). o.partner) (sym same) ∙ partner) in
    record {
      from = omega (arith, inside, m.long);
      apart = λ e. other.1 (sym number ∙ listed_at before live f paired inside ∙ ap (λ (j : ℕ). (open_at before j).job.io.call) (sym e));
      first = ap (λ (o : OpenCall). o.job.phase) same ∙ told.first;
      finished = ap (λ (o : OpenCall). periods_left o.job) same ∙ told.finished;
      told = omega (arith, end, notes, long);
      none = ap (λ (o : OpenCall). o.job.partner) same ∙ told.none;
    }

-- what it hears is what its partner noted before any heard
pub next_heard : (before now : List (Box OpenCall)) (live : List ℕ) (k f d : ℕ) (o : OpenCall) →
    ArePaired live (standings before) → AreMet before now k → (open_at now k).partner ≡ Some d → f < length live → slice_index live f ≡ d →
    o ≡ with_job (open_at now k) (hear_from (open_at now f).job (open_at now k).job) →
    o ≡ met_beside (opens_in before) (open_at now k) (open_at now k).partner
next_heard before now live k f d o paired m partner lf number e =
    let inside : f < length before = omega (arith, lf, listed_long before live paired) in
    e ∙ heard_notes (open_at now k) (open_at now f) (open_numbered (opens_in before) d) (partner_notes before now live k f d paired m inside number)
    ∙ sym (met_partner (opens_in before) (open_at now k) (open_at now k).partner d partner)

-- a call with no partner can go on alone
pub next_alone : (before now : List (Box OpenCall)) (k : ℕ) →
    All (IsTold (opens_in before)) (opens_in before) → AreMet before now k → k < length now → (open_at now k).partner ≡ None →
    ((open_at now k).job.phase ≡ First) × (periods_left (open_at now k).job ≡ 0) × ((open_at now k).job.bridge_end ≡ 0)
next_alone before now k all m l partner =
    let same : open_at now k ≡ open_at before k = m.left k (omega arith) in
    let told = told_at before k all (omega (arith, l, m.long)) in (
      ap (λ (o : OpenCall). o.job.phase) same ∙ told.first,
      ap (λ (o : OpenCall). periods_left o.job) same ∙ told.finished,
      ap (λ (o : OpenCall). o.job.bridge_end) same ∙ told.alone (ap (λ (o : OpenCall). o.partner) (sym same) ∙ partner),
    )
