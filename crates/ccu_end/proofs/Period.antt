-- One period of a followed downlink.
use Rattle.std.proofs.Common.{◌≡◌, ℕ, ◌+◌, ◌<◌, ◌≤◌, List, [], ◌∷◌, length, take, Option, Some, None, Result, Ok, Err, refl, sym, ◌∙◌, ap, subst, arith}
use Rattle.std.proofs.Common.{length-take}
use Rattle.std.specs.Prelude.{option_to_list}
use Rattle.std.specs.Io.KnownBytes.{Appends, Consumes}
use Rattle.std.proofs.KnownBytes.{Appends-nil}
use Rattle.trau_io.specs.declared.line.Side.{Side}
use Rattle.trau_io.specs.declared.line.Side.TheVariants.{Up, Down}
use Rattle.trau_io.specs.declared.transfer.Filled.{Filled}
use Rattle.trau_io.specs.declared.transfer.Filled.TheVariants as filled
use Rattle.trau_io.specs.declared.line.Failed.{Failed}
use Rattle.trau_io.specs.Lines.{LineState, OthersStay, Rose}
use Rattle.trau_io.specs.Desks.{DeskState}
use Rattle.trau_io.specs.Transfer.{Gives, given_of, ReadsBlock, Tells, WritesAll}
use Rattle.ccu_end.specs.declared.finds.Heard.{Heard}
use Rattle.ccu_end.specs.declared.recording.PeriodEnd.TheVariants.{Taken, LineEnded, ReadFailed, WriteFailed, DeskFailed}
use Rattle.ccu_end.specs.Found.{FoundFrame}
use Rattle.ccu_end.specs.Heard.{CcuMemory, Stands, frames_of}
use Rattle.ccu_end.specs.Told.{lines_of, octets_saying}
use Rattle.ccu_end.specs.Follows.{Gains, DeskHears, Moves}
use Rattle.ccu_end.specs.FollowStep.{FollowsOn, Takes}

-- a part of a block
take_short : (n : ℕ) (bytes : List ℕ) → n < length bytes → length (take n bytes) ≡ n
take_short n bytes lt = simp length-take (omega (arith, lt))

-- no more than two frames
at_most_one : {X : Type 0} (o : Option X) → length (option_to_list o) ≤ 1
at_most_one None = omega arith
at_most_one (Some x) = omega arith

-- a period has two frames at most
at_most_two : (h : Heard) → length (frames_of h) ≤ 2
at_most_two h = grind (arith, at_most_one h.first, at_most_one h.second)

-- what a period that is fed gives
pub takes_by : (ccu fed : CcuMemory) (block : List ℕ) (h : Heard) → length block ≡ 40 → fed.periods ≡ ccu.periods + 1 → fed.want ≡ ccu.want →
    ((past : List (List ℕ)) (heard : List (List FoundFrame)) → Stands past heard ccu → Stands (block ∷ past) (frames_of h ∷ heard) fed) →
    Takes ccu fed block (frames_of h)
takes_by ccu fed block h long counted want history = record { long = long; counted = counted; want = want; few = at_most_two h; history = history }

-- a call on the Up line leaves the Down line as it was, and one on the Down line the Up line
up_is_not_down : Up ≡ Down → ⊥
up_is_not_down e = cc

-- the other line stays as it was
pub down_stays : (before now : ℕ → Side → LineState) (call : ℕ) → OthersStay before now call Up → now call Down ≡ before call Down
down_stays before now call others = others call Down (λ same side. up_is_not_down (sym side))

pub up_stays : (before now : ℕ → Side → LineState) (call : ℕ) → OthersStay before now call Down → now call Up ≡ before call Up
up_stays before now call others = others call Up (λ same side. up_is_not_down side)

-- what stays gains nothing
stay_gains : (d d' : LineState) → d' ≡ d → Gains d d' []
stay_gains d d' same = record {
  written = subst (λ (o : LineState). Appends d.written o.written []) (sym same) (Appends-nil d.written);
  to_come = ap (λ (o : LineState). o.to_come) same;
  later = omega (arith, ap (λ (o : LineState). o.faults) same);
}

-- a desk that is told nothing
stay_hears : (k : DeskState) → DeskHears k k []
stay_hears k = record { written = Appends-nil k.written; to_come = refl; read_faults = refl; later = omega arith }

-- a period that isn't whole
module _ (ccu ccu' : CcuMemory) (u u' d d' : LineState) (k : DeskState) (block : List ℕ) (same : d' ≡ d) where
  -- what was read alone
  read_only : (r : Filled) → ReadsBlock u u' r block → Moves u u' d d' k k (given_of r block) [] []
  read_only r read = record {
    gives = record { read = read.given; written = read.written; later = read.later };
    gains = stay_gains d d' same;
    hears = stay_hears k;
  }

  -- the line ended inside the period, or failed there
  pub ends_inside : (n : ℕ) → length block ≡ 40 → ReadsBlock u u' (filled.Ended n) block → FollowsOn ccu ccu' u u' d d' k k (LineEnded n)
  ends_inside n long read = record {
    given = take n block;
    sent = [];
    told = [];
    moves = read_only (filled.Ended n) read;
    ends = record {
      left_is = sym (take_short n block read.stopped.0);
      part = let lt = read.stopped.0 in let count = take_short n block lt in omega (arith, lt, long, count);
      at_end = read.stopped.1;
      nothing_sent = refl;
      nothing_told = refl;
      calm = record { up_same = read.stopped.2; down_same = ap (λ (o : LineState). o.faults) same; desk_same = refl };
    };
  }

  pub fails_inside : (n : ℕ) → length block ≡ 40 → ReadsBlock u u' (filled.Failed n) block → FollowsOn ccu ccu' u u' d d' k k ReadFailed
  fails_inside n long read = record {
    given = take n block;
    sent = [];
    told = [];
    moves = read_only (filled.Failed n) read;
    ends = record {
      part = let lt = read.stopped.0 in let count = take_short n block lt in omega (arith, lt, long, count);
      nothing_sent = refl;
      nothing_told = refl;
      rose = read.stopped.1;
      down_same = ap (λ (o : LineState). o.faults) same;
      desk_same = refl;
    };
  }

-- a whole period, in which these frames were found: it was read, then its answer was written, and then its frames were
-- told
module _ (ccu ccu' : CcuMemory) (u u1 u2 d d1 d2 : LineState) (k : DeskState) (block : List ℕ) (found : List FoundFrame)
    (read : ReadsBlock u u1 filled.Whole block) (up_same : u2 ≡ u1) (down_same : d1 ≡ d) (fed : CcuMemory) (same : ccu' ≡ fed)
    (takes_fed : Takes ccu fed block found) where
  -- the period is taken
  takes : Takes ccu ccu' block found
  takes = subst (λ (s : CcuMemory). Takes ccu s block found) (sym same) takes_fed

  -- what is written is its answer
  answers : (r : Result (Unit {0}) Failed) → WritesAll d1 d2 r (octets_saying fed.answer) → WritesAll d1 d2 r (octets_saying ccu'.answer)
  answers r w = subst (λ (s : CcuMemory). WritesAll d1 d2 r (octets_saying s.answer)) (sym same) w

  gives : Gives u u2 block
  gives = record {
    read = subst (λ (l : LineState). Consumes u.to_come l.to_come block) (sym up_same) read.given;
    written = ap (λ (l : LineState). l.written) up_same ∙ read.written;
    later = omega (arith, read.later, ap (λ (l : LineState). l.faults) up_same);
  }

  gains : (sent : List ℕ) → Appends d1.written d2.written sent → d2.to_come ≡ d1.to_come → d1.faults ≤ d2.faults → Gains d d2 sent
  gains sent written to_come later = record {
    written = subst (λ (o : LineState). Appends o.written d2.written sent) down_same written;
    to_come = to_come ∙ ap (λ (o : LineState). o.to_come) down_same;
    later = omega (arith, later, ap (λ (o : LineState). o.faults) down_same);
  }

  up_calm : u2.faults ≡ u.faults
  up_calm = ap (λ (l : LineState). l.faults) up_same ∙ read.stopped

  -- the answer failed inside
  pub half_answered : WritesAll d1 d2 (Err (record {})) (octets_saying fed.answer) → FollowsOn ccu ccu' u u2 d d2 k k WriteFailed
  half_answered w_fed =
      let w = answers (Err (record {})) w_fed in
      let octets = octets_saying ccu'.answer in
      let front = w.err in
      let long : length (take front.0 octets) ≡ front.0 = take_short front.0 octets front.1 in
      record {
        given = block;
        sent = take front.0 octets;
        told = [];
        moves = record { gives = gives; gains = gains (take front.0 octets) front.2 w.to_come w.cause.later; hears = stay_hears k };
        ends = record {
          found = found;
          takes = takes;
          proper = omega (arith, long, front.1);
          front = ap (λ m. take m octets) (sym long);
          nothing_told = refl;
          up_same = up_calm;
          rose = subst (λ (o : LineState). Rose o.faults d2.faults) down_same w.cause.failed;
          desk_same = refl;
        };
      }

  module _ (k' : DeskState) (w_fed : WritesAll d1 d2 (Ok tt) (octets_saying fed.answer)) where
    w : WritesAll d1 d2 (Ok tt) (octets_saying ccu'.answer)
    w = answers (Ok tt) w_fed

    down_calm : d2.faults ≡ d.faults
    down_calm = w.cause.ok ∙ ap (λ (o : LineState). o.faults) down_same

    sent_all : Gains d d2 (octets_saying ccu'.answer)
    sent_all = gains (octets_saying ccu'.answer) w.ok w.to_come w.cause.later

    -- the text failed inside
    pub half_told : Tells k k' (Err (record {})) (lines_of found) → FollowsOn ccu ccu' u u2 d d2 k k' DeskFailed
    half_told tells =
        let lines = lines_of found in
        let front = tells.err in
        let long : length (take front.0 lines) ≡ front.0 = take_short front.0 lines front.1 in
        record {
          given = block;
          sent = octets_saying ccu'.answer;
          told = take front.0 lines;
          moves = record {
            gives = gives;
            gains = sent_all;
            hears = record { written = front.2; to_come = tells.to_come; read_faults = tells.read_faults; later = tells.cause.later };
          };
          ends = record {
            found = found;
            takes = takes;
            sent_is = refl;
            proper = omega (arith, long, front.1);
            front = ap (λ m. take m lines) (sym long);
            up_same = up_calm;
            down_same = down_calm;
            rose = tells.cause.failed;
          };
        }

    -- the period is answered and told
    pub whole_taken : (count : ℕ) → count ≡ length found → Tells k k' (Ok tt) (lines_of found) → FollowsOn ccu ccu' u u2 d d2 k k' (Taken count)
    whole_taken count count_is tells = record {
      given = block;
      sent = octets_saying ccu'.answer;
      told = lines_of found;
      moves = record {
        gives = gives;
        gains = sent_all;
        hears = record { written = tells.ok; to_come = tells.to_come; read_faults = tells.read_faults; later = tells.cause.later };
      };
      ends = record {
        found = found;
        takes = takes;
        count_is = count_is;
        sent_is = refl;
        told_is = refl;
        calm = record { up_same = up_calm; down_same = down_calm; desk_same = tells.cause.ok };
      };
    }
