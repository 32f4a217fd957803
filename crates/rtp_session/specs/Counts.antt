-- What is counted of datagrams. After the greatest number comes 0.
use Rattle.rtp_buffer.specs.Watch.{on}
use Rattle.rtp_buffer.specs.declared.pace.Owed.{Owed}
use Rattle.rtp_buffer.specs.declared.pace.Owed.TheVariants.{Nothing, On, Back}
use Rattle.rtp_session.specs.declared.counts.Counts.{Counts}
use Rattle.rtp_session.specs.declared.incoming.Outcome.{Outcome}
use Rattle.rtp_session.specs.declared.incoming.Outcome.TheVariants.{Taken, NoPacket, Control, OtherType, Empty, OddSize, TooLong, OnProbation, GivenUp, Far}

-- nothing is counted yet
abbrev pub no_counts : Counts
no_counts = record {
  no_packet = 0;
  control = 0;
  other_type = 0;
  empty = 0;
  odd_size = 0;
  too_long = 0;
  on_probation = 0;
  given_up = 0;
  far = 0;
  late = 0;
  doubled = 0;
  new_sources = 0;
  jumps = 0;
  off_the_grid = 0;
  slips_on = 0;
  slips_back = 0;
  received_before = 0;
  missing_before = 0;
}

-- **A datagram that isn't taken counts once, under its reason.**
abbrev pub with_outcome : Outcome → Counts → Counts
with_outcome Taken counts = counts
with_outcome NoPacket counts = record counts { no_packet = on counts.no_packet 1 }
with_outcome Control counts = record counts { control = on counts.control 1 }
with_outcome OtherType counts = record counts { other_type = on counts.other_type 1 }
with_outcome Empty counts = record counts { empty = on counts.empty 1 }
with_outcome OddSize counts = record counts { odd_size = on counts.odd_size 1 }
with_outcome TooLong counts = record counts { too_long = on counts.too_long 1 }
with_outcome OnProbation counts = record counts { on_probation = on counts.on_probation 1 }
with_outcome GivenUp counts = record counts { given_up = on counts.given_up 1 }
with_outcome Far counts = record counts { far = on counts.far 1 }

-- a slip that is made
abbrev pub with_slip : Owed → Counts → Counts
with_slip Nothing counts = counts
with_slip (On count) counts = record counts { slips_on = on counts.slips_on 1 }
with_slip (Back count) counts = record counts { slips_back = on counts.slips_back 1 }
