-- A round that is worked, call by call: each call's half of the job by which the round is defined.
use Rattle.std.proofs.Common.{◌≡◌, ◌≢◌, refl, sym, ap, ◌∙◌, subst, ℕ, ◌<◌, Bool, true, Option, Some, None, List, [], ◌∷◌, length, get_or, arith}
use Rattle.std.specs.Prelude.{◌==◌, if◌then◌else◌, is_some, map, min, unwrap_or}
use Rattle.std.specs.Option.{option_map}
use Rattle.std.specs.List.{All}
use Rattle.std.specs.Global.{Box}
use Rattle.std.proofs.lemmas.Bool.{eq-eqb}
use Rattle.std.proofs.lemmas.List.Elements.{All-map, All-from_get_or, All-get_or}
use Rattle.std.proofs.lemmas.Simd.{map-map}
use Rattle.call_pair.specs.Memory.{HalfMemory, Job, One, Two}
use Rattle.call_pair.specs.Jobs.{half_of, finished_job}
use Rattle.call_pair.specs.Phases.{CallMemory, job_at_phase_end, turn_down, hear_from, half_in, first_phase, round_alone, round_beside}
use Rattle.call_pair.proofs.Rounded.{one-rounded, two-rounded}
use Rattle.round_lines.specs.Memory.{whole_in}
use Rattle.round_lines.specs.Portions.{PortionMemory}
use Rattle.round_lines.specs.Rounds.{no_portion}
use Rattle.farm_rounds.specs.declared.open.OpenCall.{OpenCall}
use Rattle.farm_rounds.specs.Calls.{Kept, kept_in, partner_in}
use Rattle.farm_rounds.specs.Numbers.{IsRising, is_among}
use Rattle.farm_rounds.specs.Opens.{opens_in, kept_of, portion_of_open, open_begun, open_finished}
use Rattle.farm_rounds.specs.Opened.{Standing, standing_of_open, no_standing, standing_of, end_with, end_beside, all_begun, all_met, met_beside, open_numbered, no_open}
use Rattle.farm_rounds.specs.Opened.{ArePaired, IsReady, IsTold}
use Rattle.farm_rounds.specs.Acts.{no_kept}
use Rattle.farm_rounds.specs.Rounds.{io_of}
use Rattle.farm_rounds.specs.RoundHistories.{portion_of}
use Rattle.farm_rounds.specs.Working.{RoundMemory, IsInRound, IsRound}
use Rattle.farm_rounds.specs.Finishing.{half_filled, job_beside, job_in, half_worked}
use Rattle.farm_rounds.proofs.Places.Found.{open_in, all_of, is_found, found_all, found_among, find_at, kept_by, standing_by, portion_by, changed_by}
use Rattle.farm_rounds.proofs.Places.Found.{partner_found, has_partner}
use Rattle.farm_rounds.proofs.Work.Phases.{half_open, told_at, told_is, told_number, told_heard, done_at, done_keeps}

-- ---- the calls of each step, by those at its start

abbrev pub ends : List OpenCall → OpenCall → ℕ
ends os o = end_beside (map standing_of_open os) o

abbrev pub told : List OpenCall → OpenCall → OpenCall
told os o = told_at (ends os o) o

abbrev pub all_told : List OpenCall → List OpenCall
all_told os = map (told os) os

abbrev pub done : List OpenCall → OpenCall → OpenCall
done os o = done_at (all_told os) (ends os o) o

abbrev pub all_done : List OpenCall → List OpenCall
all_done os = map (done os) os

pub told_all : (os : List OpenCall) → map open_finished (all_begun (map standing_of_open os) os) ≡ all_told os
told_all os = map-map open_finished (λ (o : OpenCall). open_begun (ends os o) o) os

pub done_all : (os : List OpenCall) → map open_finished (all_met (all_told os)) ≡ all_done os
done_all os =
    map-map open_finished (λ (o : OpenCall). met_beside (all_told os) o o.partner) (all_told os)
    ∙ map-map (λ (o : OpenCall). open_finished (met_beside (all_told os) o o.partner)) (told os) os

-- The boxed calls after each phase are those of the lists above.
pub after_first : (os : List OpenCall) (begun run : List (Box OpenCall)) → opens_in begun ≡ all_begun (map standing_of_open os) os →
    opens_in run ≡ map (λ b. open_finished b.value) begun → opens_in run ≡ all_told os
after_first os begun run e f = f ∙ sym (map-map open_finished (λ (b : Box OpenCall). b.value) begun) ∙ ap (map open_finished) e ∙ told_all os

pub after_second : (os : List OpenCall) (told met run : List (Box OpenCall)) → opens_in told ≡ all_told os → opens_in met ≡ all_met (opens_in told) →
    opens_in run ≡ map (λ b. open_finished b.value) met → opens_in run ≡ all_done os
after_second os told met run e f g =
    g ∙ sym (map-map open_finished (λ (b : Box OpenCall). b.value) met) ∙ ap (map open_finished) (f ∙ ap all_met e) ∙ done_all os

-- the call that is found
pub told_found : (os : List OpenCall) (d : ℕ) (p : OpenCall) → open_in os d ≡ Some p → open_numbered (all_told os) d ≡ told os p
told_found os d p e =
    ap (λ (x : Option OpenCall). unwrap_or x no_open)
    (changed_by (told os) os d (all_of (λ (o : OpenCall). (told os o).job.io.call ≡ o.job.io.call) os (λ o. told_number (ends os o) o)) ∙ ap (λ (x : Option OpenCall). option_map (told os) x) e)

pub standing_found : (os : List OpenCall) (d : ℕ) (p : OpenCall) → open_in os d ≡ Some p →
    standing_of (map standing_of_open os) d ≡ standing_of_open p
standing_found os d p e =
    ap (λ (x : Option Standing). unwrap_or x no_standing) (standing_by os d ∙ ap (λ (x : Option OpenCall). option_map standing_of_open x) e)

pub done_found : (os : List OpenCall) (c : ℕ) → open_in (all_done os) c ≡ option_map (done os) (open_in os c)
done_found os c = changed_by (done os) os c (all_of (λ (o : OpenCall). (done os o).job.io.call ≡ o.job.io.call) os (λ o. (done_keeps (all_told os) (ends os o) o).call))

-- ---- the calls of a round

module _ (start ended : ℕ) (live : List ℕ) (os : List OpenCall) (i : IsRound start ended live os) where
  pub in_round : (c : ℕ) (o : OpenCall) → open_in os c ≡ Some o → IsInRound start ended o
  in_round c o e = found_all (IsInRound start ended) os c o e i.each

  -- a call's partner, whose partner it is
  pub record Beside (c : ℕ) (o : OpenCall) (d : ℕ) : Type 0 where
    pub other : OpenCall
    pub found : open_in os d ≡ Some other
    pub back : other.partner ≡ Some c
    pub apart : c ≢ d

  pub beside : (c : ℕ) (o : OpenCall) (d : ℕ) → open_in os c ≡ Some o → o.partner ≡ Some d → Beside c o d
  beside c o d e q =
      let both = i.opened.both c d (partner_found os c o e ∙ q) in
      let p = has_partner os d c both.0 in
      record { other = p.call; found = p.found; back = p.partner; apart = both.1 }

  -- a bridge ends behind the places of the shorter
  pub ends_with : (c : ℕ) (o : OpenCall) (d : ℕ) (p : OpenCall) → o.partner ≡ Some d →
      open_in os d ≡ Some p → ends os o ≡ min (whole_in o.lines) (whole_in p.lines)
  ends_with c o d p q f =
      ap (end_with (map standing_of_open os) (whole_in o.lines)) q ∙ ap (λ (s : Standing). min (whole_in o.lines) s.whole) (standing_found os d p f)

  ends_alone : (o : OpenCall) → o.partner ≡ None → ends os o ≡ 0
  ends_alone o q = ap (end_with (map standing_of_open os) (whole_in o.lines)) q

  -- ---- a call's job

  alone_done : (c : ℕ) (o : OpenCall) → open_in os c ≡ Some o → o.partner ≡ None → (done os o).job ≡ round_alone (half_open o)
  alone_done c o e q =
      ap (λ (p : Option ℕ). job_at_phase_end (met_beside (all_told os) (told os o) p).job) q
      ∙ ap (λ (m : ℕ). job_at_phase_end (turn_down (told_at m o).job)) (ends_alone o q)
      ∙ ap (λ (j : CallMemory). job_at_phase_end (turn_down j)) (told_is start ended 0 o (in_round c o e))

  beside_done : (c : ℕ) (o : OpenCall) (d : ℕ) (e : open_in os c ≡ Some o) (q : o.partner ≡ Some d) (b : Beside c o d) →
      (done os o).job ≡ round_beside (min (whole_in o.lines) (whole_in b.other.lines)) (half_open o) (half_open b.other)
  beside_done c o d e q b =
      let p = b.other in
      let m = min (whole_in o.lines) (whole_in p.lines) in
      let same : min (whole_in p.lines) (whole_in o.lines) ≡ m = omega arith in
      let its : ends os o ≡ m = ends_with c o d p q b.found in
      let others : ends os p ≡ m = ends_with d p c o b.back e ∙ same in
      ap (λ (x : Option ℕ). job_at_phase_end (met_beside (all_told os) (told os o) x).job) q
      ∙ ap (λ (x : OpenCall). job_at_phase_end (hear_from x.job (told os o).job)) (told_found os d p b.found)
      ∙ ap (λ (n : ℕ). job_at_phase_end (hear_from (told_at n p).job (told os o).job)) others
      ∙ ap (λ (n : ℕ). job_at_phase_end (hear_from (told_at m p).job (told_at n o).job)) its
      ∙ ap (λ (j : CallMemory). job_at_phase_end (hear_from j (told_at m o).job)) (told_is start ended m p (in_round d p b.found))
      ∙ ap (λ (j : CallMemory). job_at_phase_end (hear_from (first_phase m (half_open p)) j)) (told_is start ended m o (in_round c o e))

  -- ---- the job by which the round is defined

  abbrev Places : Type 0
  Places = All (λ o. o.lines.call ≡ o.job.io.call) os

  places : Places
  places = All-from_get_or (λ o. o.lines.call ≡ o.job.io.call) os no_open (λ k l. (All-get_or (IsInRound start ended) os k no_open l i.each).call.lines)

  pub portion_found : (c : ℕ) (o : OpenCall) → open_in os c ≡ Some o → portion_of (map portion_of_open os) c ≡ portion_of_open o
  portion_found c o e = ap (λ (x : Option PortionMemory). unwrap_or x no_portion) (portion_by os c places ∙ ap (λ (x : Option OpenCall). option_map portion_of_open x) e)

  pub kept_found : (c : ℕ) (o : OpenCall) → open_in os c ≡ Some o → kept_in (map kept_of os) c ≡ Some (kept_of o)
  kept_found c o e = kept_by os c ∙ ap (λ (x : Option OpenCall). option_map kept_of x) e

  module _ (r : RoundMemory) (calls : r.farm.calls ≡ map kept_of os) (portions : r.portions ≡ map portion_of_open os) where
    filled : (c : ℕ) (o : OpenCall) → open_in os c ≡ Some o → half_filled r c ≡ half_open o
    filled c o e =
        ap (λ (ks : List Kept). record { leg = (unwrap_or (kept_in ks c) no_kept).call.leg; io = io_of (portion_of r.portions c) }) calls
        ∙ ap (λ (ss : List PortionMemory). record { leg = (unwrap_or (kept_in (map kept_of os) c) no_kept).call.leg; io = io_of (portion_of ss c) }) portions
        ∙ ap (λ (k : Option Kept). record { leg = (unwrap_or k no_kept).call.leg; io = io_of (portion_of (map portion_of_open os) c) }) (kept_found c o e)
        ∙ ap (λ (s : PortionMemory). record { leg = (kept_of o).call.leg; io = io_of s }) (portion_found c o e)

    partner_is : (c : ℕ) (o : OpenCall) → open_in os c ≡ Some o → partner_in r.farm.calls c ≡ o.partner
    partner_is c o e = ap (λ (ks : List Kept). partner_in ks c) calls ∙ partner_found os c o e

    -- the job of a call alone, and of one with its partner
    pub job_alone : (c : ℕ) (o : OpenCall) → open_in os c ≡ Some o → o.partner ≡ None → job_in r c ≡ One (half_open o)
    job_alone c o e q = ap (λ (p : Option ℕ). job_beside r c p) (partner_is c o e ∙ q) ∙ ap (λ (h : HalfMemory). One h) (filled c o e)

    pub job_both : (c : ℕ) (o : OpenCall) (d : ℕ) (p : OpenCall) → open_in os c ≡ Some o → o.partner ≡ Some d → open_in os d ≡ Some p →
        job_in r c ≡ Two (half_open o) (half_open p)
    job_both c o d p e q f =
        ap (λ (x : Option ℕ). job_beside r c x) (partner_is c o e ∙ q) ∙ ap (λ (h : HalfMemory). Two h (half_filled r d)) (filled c o e)
        ∙ ap (λ (h : HalfMemory). Two (half_open o) h) (filled d p f)

    -- a call's half of it is its job behind the round
    pub worked_half : (c : ℕ) (o : OpenCall) → open_in os c ≡ Some o → half_worked r c ≡ half_in (done os o).job
    worked_half c o e = by o.partner refl
      where
        number : (done os o).job.io.call ≡ c
        number = (done_keeps (all_told os) (ends os o) o).call ∙ (is_found os c o e).number

        by : (q : Option ℕ) → o.partner ≡ q → half_worked r c ≡ half_in (done os o).job
        by None q =
            ap (λ (j : Job). half_of (finished_job j) c) (job_alone c o e q)
            ∙ ap (λ (j : Job). half_of j c) (one-rounded (half_open o) refl)
            ∙ ap half_in (sym (alone_done c o e q))
        by (Some d) q =
            let b = beside c o d e q in
            let p = b.other in
            let m = min (whole_in o.lines) (whole_in p.lines) in
            let is = beside_done c o d e q b in
            let first = half_in (round_beside m (half_open o) (half_open p)) in
            let call : (first.io.call == c) ≡ true = eq-eqb first.io.call c (ap (λ (j : CallMemory). j.io.call) (sym is) ∙ number) in
            ap (λ (j : Job). half_of (finished_job j) c) (job_both c o d p e q b.found)
            ∙ ap (λ (j : Job). half_of j c) (two-rounded (half_open o) (half_open p) refl refl)
            ∙ ap (λ (t : Bool). if t then first else half_in (round_beside m (half_open p) (half_open o))) call
            ∙ ap half_in (sym is)

  -- ---- when each step can be done

  pub paired : ArePaired live (map standing_of_open os)
  paired = record {
    listed = i.opened.listed ∙ sym (map-map (λ (s : Standing). s.number) standing_of_open os);
    rising = i.opened.rising;
    partners = All-map (λ s. (d : ℕ) → s.partner ≡ Some d → (is_among live d ≡ true) × (d ≢ s.number)) standing_of_open os
        (All-from_get_or (λ o. (d : ℕ) → o.partner ≡ Some d → (is_among live d ≡ true) × (d ≢ o.job.io.call)) os no_open one);
  }
    where
      one : (k : ℕ) → k < length os → (d : ℕ) → (get_or os k no_open).partner ≡ Some d →
          (is_among live d ≡ true) × (d ≢ (get_or os k no_open).job.io.call)
      one k l d q =
          let o = get_or os k no_open in
          let b = beside o.job.io.call o d (find_at os k (subst IsRising i.opened.listed i.opened.rising) l) q in
          (subst (λ (ns : List ℕ). is_among ns d ≡ true) (sym i.opened.listed) (found_among os d b.other b.found), λ e. b.apart (sym e))

  pub ready : All IsReady os
  ready = All-from_get_or IsReady os no_open (λ k l.
      let o = get_or os k no_open in
      let r = All-get_or (IsInRound start ended) os k no_open l i.each in
      record {
        first = r.call.first;
        none = r.call.none;
        given = r.given;
        bridge = λ d q. r.bridge ∙ ap (λ (p : Option ℕ). if is_some p then o.lines.periods else 0) q;
      })

  -- calls after the first phase stand as they did
  pub told_standings : map standing_of_open (all_told os) ≡ map standing_of_open os
  told_standings = by os os
    where
      by : (ss xs : List OpenCall) → map standing_of_open (map (told ss) xs) ≡ map standing_of_open xs
      by ss [] = refl
      by ss (x ∷ xs) =
          ap (λ (n : ℕ). record { number = n; partner = x.partner; whole = whole_in x.lines } ∷ map standing_of_open (map (told ss) xs)) (told_number (ends ss x) x)
          ∙ ap (λ (rest : List Standing). standing_of_open x ∷ rest) (by ss xs)

  pub told_ready : All (IsTold (all_told os)) (all_told os)
  told_ready = All-map (IsTold (all_told os)) (told os) os (All-from_get_or (λ o. IsTold (all_told os) (told os o)) os no_open one)
    where
      one : (k : ℕ) → k < length os → IsTold (all_told os) (told os (get_or os k no_open))
      one k l =
          let o = get_or os k no_open in
          let c = o.job.io.call in
          let e = find_at os k (subst IsRising i.opened.listed i.opened.rising) l in
          let h = told_heard start ended (ends os o) o (in_round c o e) in
          record {
            first = h.phase;
            finished = h.finished;
            none = h.alone;
            alone = λ q. h.ends ∙ ends_alone o q;
            within = λ d q.
                let b = beside c o d e q in
                let p = b.other in
                let notes = (told_heard start ended (ends os p) p (in_round d p b.found)).notes in
                let is : length (open_numbered (all_told os) d).job.notes ≡ whole_in p.lines = ap (λ (x : OpenCall). length x.job.notes) (told_found os d p b.found) ∙ notes in
                omega (arith, h.ends, ends_with c o d p q b.found, is);
          }
