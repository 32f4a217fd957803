-- The calls of finished jobs, for all periods that they may have had.
use Rattle.std.proofs.Common.{◌≡◌, refl, sym, ap, ◌∙◌, subst, ℕ, ◌≤◌, ltb, Bool, true, false, Option, Some, None, List, arith, inl, inr}
use Rattle.std.specs.Prelude.{if◌then◌else◌, ◌==◌, is_some}
use Rattle.std.specs.Option.{option_map}
use Rattle.std.proofs.lemmas.Bool.{cases_eq, eqb-true, eq-eqb, ne_eqb}
use Rattle.call_leg.specs.Settings.{Settings, without_bridge, settings_at}
use Rattle.call_leg.specs.Stands.{Stands}
use Rattle.call_pair.specs.Memory.{IoMemory, HalfMemory, IsIo, Job, One, Two}
use Rattle.call_pair.specs.Jobs.{half_of, finished_job}
use Rattle.call_pair.specs.History.{Start, settings_past, io_after, Begins}
use Rattle.call_pair.specs.Finished.{HasWorkedBridged, OneWorked, TwoWorked}
use Rattle.call_pair.proofs.Places.{is_below, not_below}
use Rattle.call_pair.proofs.RunsAlone.{one-finished, still-bridged}
use Rattle.call_pair.proofs.Runs.{two-finished}
use Rattle.round_lines.specs.Memory.{whole_in}
use Rattle.round_lines.specs.Portions.{PortionMemory}
use Rattle.farm_rounds.specs.Histories.{CallHistory, whose}
use Rattle.farm_rounds.specs.Rounds.{io_of}
use Rattle.farm_rounds.specs.Working.{that_stays}
use Rattle.farm_rounds.specs.RoundHistories.{portion_of, start_with, history_alone, history_bridged, history_beside, history_with, worked_histories}

-- A half has the octets of its call's portion. The call goes on where all periods of the round are whole.
pub record Portioned (portions : List PortionMemory) (stays : ℕ → Bool) (periods c : ℕ) (half : HalfMemory) : Type 0 where
  pub octets : half.io ≡ io_of (portion_of portions c)
  pub sound : IsIo (io_of (portion_of portions c))
  pub number : (portion_of portions c).lines.call ≡ c
  pub within : whole_in (portion_of portions c).lines ≤ periods
  pub full : stays c ≡ (whole_in (portion_of portions c).lines == periods)

-- A finished half has worked what the round adds to its call.
pub record Finished (portions : List PortionMemory) (stays : ℕ → Bool) (h : ℕ → Option CallHistory)
    (partner : ℕ → Option ℕ) (c : ℕ) (f : HalfMemory) : Type 0 where
  pub now : CallHistory
  pub told : worked_histories portions partner h c ≡ Some now
  pub octets : f.io ≡ io_after (whose c now) (whole_in (portion_of portions c).lines) now.periods (io_of (portion_of portions c))
  pub leg : Stands (whose c now) now.periods now.now f.leg
  pub bridged : stays c ≡ true → now.now.bridged ≡ is_some (that_stays stays (partner c))

-- a call at the start of a round
begins : (portions : List PortionMemory) (stays : ℕ → Bool) (periods c : ℕ) (g : HalfMemory) (x : CallHistory) → Portioned portions stays periods c g →
    Stands (whose c x) x.periods x.now g.leg → Begins (start_with portions c x) g
begins portions stays periods c g x s leg = record {
  octets = s.sound;
  none_done = refl;
  io = s.octets;
  leg = subst (λ (n : ℕ). Stands (whose n x) x.periods x.now g.leg) (sym s.number) leg;
}

-- ---- a call that lies in no bridge

-- a call that isn't bridged stands for its periods with those of the round
pub alone_finished : (portions : List PortionMemory) (stays : ℕ → Bool) (h : ℕ → Option CallHistory)
    (partner : ℕ → Option ℕ) (periods c : ℕ) (g : HalfMemory) (x : CallHistory) → Portioned portions stays periods c g → h c ≡ Some x → partner c ≡ None →
    Stands (whose c x) x.periods x.now g.leg → x.now.bridged ≡ false → Finished portions stays h partner c (half_of (finished_job (One g)) c)
alone_finished portions stays h partner periods c g x s eh ep leg off =
    let start : Start = start_with portions c x in
    let done : OneWorked start (finished_job (One g)) = one-finished start g (begins portions stays periods c g x s leg) off in
    let half : half_of (finished_job (One g)) c ≡ done.half = ap (λ (j : Job). half_of j c) done.is_one in
    record {
      now = history_alone portions c x;
      told =
          ap (λ (o : Option CallHistory). option_map (history_with portions h c (partner c)) o) eh ∙ ap (λ (q : Option ℕ). Some (history_with portions h c q x)) ep;
      octets = ap (λ (f : HalfMemory). f.io) half ∙ done.worked.io
          ∙ ap (λ (n : ℕ). io_after (whose n x) (whole_in (portion_of portions c).lines) (history_alone portions c x).periods (io_of (portion_of portions c))) s.number;
      leg = subst (λ (f : HalfMemory). Stands (whose c x) (history_alone portions c x).periods (history_alone portions c x).now f.leg) (sym half)
          (subst (λ (n : ℕ). Stands (whose n x) (history_alone portions c x).periods (history_alone portions c x).now done.half.leg) s.number done.worked.leg);
      bridged = λ on. still-bridged (whole_in (portion_of portions c).lines) x.now ∙ off ∙ sym (ap (λ (q : Option ℕ). is_some (that_stays stays q)) ep);
    }

-- ---- the calls of a bridge

-- the bridge lasts past k places where the partner has as many
past_bridged : (k others : ℕ) (now : Settings) (b : Bool) → ltb others k ≡ b → now.bridged ≡ true →
    (settings_past k others now).bridged ≡ (if b then false else true)
past_bridged k others now true e on = ap (λ (x : Bool). (if x then without_bridge (settings_at k now) else settings_at k now).bridged) e
past_bridged k others now false e on =
    ap (λ (x : Bool). (if x then without_bridge (settings_at k now) else settings_at k now).bridged) e ∙ still-bridged k now ∙ on

-- the bridge lasts exactly if the partner goes on
lasts : (stays : ℕ → Bool) (periods k others d : ℕ) (now : Settings) → k ≡ periods →
    others ≤ periods → stays d ≡ (others == periods) → now.bridged ≡ true → (settings_past k others now).bridged ≡ is_some (that_stays stays (Some d))
lasts stays periods k others d now ek within full on = elim (cases_eq others periods) [
  | inl e ↦
      let stay : stays d ≡ true = full ∙ eq-eqb others periods e in
      past_bridged k others now false (not_below others k (omega (arith, ek, e))) on ∙ sym (ap (λ (b : Bool). is_some (if b then Some d else None)) stay)
  | inr ne ↦
      let stay : stays d ≡ false = full ∙ ne_eqb others periods ne in
      past_bridged k others now true (is_below others k (omega (arith, ek, ne, within))) on ∙ sym (ap (λ (b : Bool). is_some (if b then Some d else None)) stay)
]

-- the half of the first call, by its number
first_half : (a b : HalfMemory) → half_of (Two a b) a.io.call ≡ a
first_half a b = let e : (a.io.call == a.io.call) ≡ true = eq-eqb a.io.call a.io.call refl in rw e refl

-- a call of a bridge does, seen with its partner
pub beside_finished : (portions : List PortionMemory) (stays : ℕ → Bool) (h : ℕ → Option CallHistory)
    (partner : ℕ → Option ℕ) (periods c d : ℕ) (g f : HalfMemory)
    (x y : CallHistory) → Portioned portions stays periods c g → Portioned portions stays periods d f → h c ≡ Some x → h d ≡ Some y → partner c ≡ Some d →
    Stands (whose c x) x.periods x.now g.leg → Stands (whose d y) y.periods y.now f.leg → x.now.bridged ≡ true → y.now.bridged ≡ true →
    Finished portions stays h partner c (half_of (finished_job (Two g f)) c)
beside_finished portions stays h partner periods c d g f x y s t eh ed ep leg other on both =
    let one : Start = start_with portions c x in
    let two : Start = start_with portions d y in
    let done : TwoWorked one two (finished_job (Two g f)) =
    two-finished one two g f (begins portions stays periods c g x s leg) (begins portions stays periods d f y t other) on both in
    let worked : HasWorkedBridged one two done.first = done.first_worked in
    let number : done.first.io.call ≡ c = ap (λ (io : IoMemory). io.call) worked.io ∙ s.number in
    let half : half_of (finished_job (Two g f)) c ≡ done.first =
    ap (λ (j : Job). half_of j c) done.are_two ∙ ap (λ (k : ℕ). half_of (Two done.first done.second) k) (sym number) ∙ first_half done.first done.second in
    let now : CallHistory = history_bridged portions c x d y in
    let n : ℕ = whole_in (portion_of portions c).lines in
    record {
      now = now;
      told = ap (λ (o : Option CallHistory). option_map (history_with portions h c (partner c)) o) eh ∙ ap (λ (q : Option ℕ). Some (history_with portions h c q x)) ep
          ∙ ap (λ (o : Option CallHistory). Some (history_beside portions c x d o)) ed;
      octets = ap (λ (e : HalfMemory). e.io) half ∙ worked.io ∙ ap (λ (m : ℕ). io_after (whose m now) n now.periods (io_of (portion_of portions c))) s.number;
      leg =
          subst (λ (e : HalfMemory). Stands (whose c now) now.periods now.now e.leg) (sym half)
          (subst (λ (m : ℕ). Stands (whose m now) now.periods now.now done.first.leg) s.number worked.leg);
      bridged = λ stay.
          let full : n ≡ periods = eqb-true n periods (sym s.full ∙ stay) in
          lasts stays periods n (whole_in (portion_of portions d).lines) d x.now full t.within t.full on
          ∙ sym (ap (λ (q : Option ℕ). is_some (that_stays stays q)) ep);
    }
