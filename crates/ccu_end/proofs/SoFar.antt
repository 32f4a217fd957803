-- A downlink so far: periods that are answered and told, and what one more adds.
use Rattle.std.proofs.Common.{◌≡◌, ℕ, ◌*◌, ◌≤◌, List, [], ◌∷◌, ◌++◌, length, reverse, refl, ◌∙◌, ap, arith}
use Rattle.std.specs.List.{concat}
use Rattle.std.proofs.lemmas.Grind.{flat_map-append}
use Rattle.std.proofs.lemmas.List.Elements.{All-nil}
use Rattle.std.proofs.KnownBytes.{Consumes-nil, Appends-nil, Appends-trans}
use Rattle.trau_io.specs.Lines.{LineState}
use Rattle.trau_io.proofs.Given.{gives_on}
use Rattle.trau_io.specs.Desks.{DeskState}
use Rattle.ccu_end.specs.Found.{FoundFrame}
use Rattle.ccu_end.specs.Asked.{asked}
use Rattle.ccu_end.specs.Heard.{ArePeriods, CcuMemory, Stands, all_of}
use Rattle.ccu_end.specs.Told.{line_of, lines_of, listed, octets_saying, sent_up}
use Rattle.ccu_end.specs.Follows.{Gains, DeskHears, Moves}
use Rattle.ccu_end.specs.FollowStep.{NoFault}

-- what is gained and printed, and then more
gains_on : (a b c : LineState) (s t : List ℕ) → Gains a b s → Gains b c t → Gains a c (s ++ t)
gains_on a b c s t first second = record {
  written = Appends-trans _ _ _ _ _ first.written second.written;
  to_come = second.to_come ∙ first.to_come;
  later = omega (arith, first.later, second.later);
}

hears_on : (a b c : DeskState) (s t : List ℕ) → DeskHears a b s → DeskHears b c t → DeskHears a c (s ++ t)
hears_on a b c s t first second = record {
  written = Appends-trans _ _ _ _ _ first.written second.written;
  to_come = second.to_come ∙ first.to_come;
  read_faults = second.read_faults ∙ first.read_faults;
  later = omega (arith, first.later, second.later);
}

pub moves_on : (u0 u1 u2 d0 d1 d2 : LineState) (k0 k1 k2 : DeskState) (g g' s s' t t' : List ℕ) →
    Moves u0 u1 d0 d1 k0 k1 g s t → Moves u1 u2 d1 d2 k1 k2 g' s' t' → Moves u0 u2 d0 d2 k0 k2 (g ++ g') (s ++ s') (t ++ t')
moves_on u0 u1 u2 d0 d1 d2 k0 k1 k2 g g' s s' t t' first second = record {
  gives = gives_on _ _ _ _ _ first.gives second.gives;
  gains = gains_on _ _ _ _ _ first.gains second.gains;
  hears = hears_on _ _ _ _ _ first.hears second.hears;
}

-- the frames of one period more, their lines, and its answer
pub all_more : (fs : List FoundFrame) (heard : List (List FoundFrame)) → all_of (fs ∷ heard) ≡ all_of heard ++ fs
unfolding all_of
all_more fs heard = refl

pub listed_more : (fs : List FoundFrame) (heard : List (List FoundFrame)) → listed (fs ∷ heard) ≡ listed heard ++ lines_of fs
listed_more fs heard = ap lines_of (all_more fs heard) ∙ flat_map-append line_of (all_of heard) fs

pub sent_more : (want : ℕ) (fs : List FoundFrame) (heard : List (List FoundFrame)) →
    sent_up want (fs ∷ heard) ≡ sent_up want heard ++ octets_saying (asked want (fs ∷ heard))
unfolding sent_up
sent_more want fs heard = refl

-- so far: n whole periods, for which the base station's end stands, all of which are answered and told, and no fault
pub record SoFar (ccu : CcuMemory) (want : ℕ) (u0 u1 d0 d1 : LineState) (k0 k1 : DeskState) (n frames : ℕ) : Type 0 where
  pub periods : List (List ℕ)
  pub heard : List (List FoundFrame)
  pub count : length periods ≡ n
  pub counted : ccu.periods ≡ n
  pub wanted : ccu.want ≡ want
  pub stands : Stands (reverse periods) heard ccu
  pub whole : ArePeriods periods
  pub frames_are : frames ≡ length (all_of heard)
  pub at_most : frames ≤ 2 * n
  pub moves : Moves u0 u1 d0 d1 k0 k1 (concat periods) (sent_up want heard) (listed heard)
  pub calm : NoFault u0 u1 d0 d1 k0 k1

-- before the first period
pub at_start : (ccu : CcuMemory) (want : ℕ) (u d : LineState) (k : DeskState) → ccu.want ≡ want → Stands [] [] ccu → SoFar ccu want u u d d k k 0 0
unfolding all_of sent_up
at_start ccu want u d k wanted stands = record {
  periods = [];
  heard = [];
  count = refl;
  counted = stands.periods;
  wanted = wanted;
  stands = stands;
  whole = All-nil (λ octets. length octets ≡ 40);
  frames_are = refl;
  at_most = omega arith;
  moves = record {
    gives = record { read = Consumes-nil u.to_come; written = refl; later = omega arith };
    gains = record { written = Appends-nil d.written; to_come = refl; later = omega arith };
    hears = record { written = Appends-nil k.written; to_come = refl; read_faults = refl; later = omega arith };
  };
  calm = record { up_same = refl; down_same = refl; desk_same = refl };
}
