-- How a call begins, and what a period of it leaves behind.
use Rattle.std.specs.Prelude.{◌≡◌, ℕ, Bool, true, false, ◌+◌, ◌%◌, ◌^◌, Option, Some, None, unwrap_or, List, replicate, take, drop}
use Rattle.trau_alaw.specs.Laws.{idle_of}
use Rattle.fr_sides.specs.Uplink.{WrittenUplink}
use Rattle.call_coders.specs.declared.coders.Brought.{Brought}
use Rattle.call_coders.specs.declared.coders.DownKind.{DownKind}
use Rattle.call_coders.specs.Replay.{IsCarried}
use Rattle.rtp_session.specs.Incoming.{IsSound, BeginsSession}
use Rattle.rtp_session.specs.Playing.{PlaysPeriod}
use Rattle.rtp_session.specs.Outgoing.{outgoing_home, header_at, sent, IsMedia, Carries}
use Rattle.rtp_call.specs.declared.call.Call.{Call}
use Rattle.rtp_call.specs.declared.call.Settings.{Settings}
use Rattle.rtp_call.specs.Hearing.{hearing_home, Hears}
use Rattle.rtp_call.specs.Playing.{IsSoftFrame, IsSoftLine}
use Rattle.rtp_call.specs.Sending.{is_speech, is_sent, pause_after, station_after}

-- its streams are as an export leaves them
pub record IsReady (call : Call) : Type 0 where
  pub gsm : IsSound call.gsm.stream
  pub pcm : IsSound call.pcm.stream
  pub to_gsm : IsMedia call.to_gsm.payload_type
  pub to_pcm : IsMedia call.to_pcm.payload_type

-- before its first period
pub record BeginsCall (settings : Settings) (random : List ℕ) (call : Call) : Type 0 where
  pub gsm : IsMedia settings.gsm
  pub pcm : IsMedia settings.pcm
  pub law : call.law ≡ settings.law
  pub hearing : call.hearing ≡ hearing_home settings.prime
  pub no_line : call.no_line ≡ 0
  pub from_gsm : BeginsSession settings.gsm true settings.depth call.gsm
  pub from_pcm : BeginsSession settings.pcm false settings.depth call.pcm
  pub pause : call.pause ≡ None
  pub to_gsm : call.to_gsm ≡ outgoing_home settings.gsm (take 10 random)
  pub to_pcm : call.to_pcm ≡ outgoing_home settings.pcm (take 10 (drop 10 random))

-- **What a period has from the base station**: the frame that its stream plays, as it is heard.
pub record HearsStation (old new : Call) (tick : ℕ) (brought : Brought) : Type 0 where
  pub came : Option (List ℕ)
  pub plays : PlaysPeriod IsSoftFrame old.gsm new.gsm tick 0 came
  pub hears : Hears old.hearing new.hearing came brought

-- a period without octets counts
abbrev pub no_line_after : Option (List ℕ) → ℕ → ℕ
no_line_after None count = (count + 1) % 2 ^ 32
no_line_after (Some octets) count = count

-- **What it has from the exchange**: the octets that its stream plays, with idle ones where none came.
pub record HearsExchange (old new : Call) (tick : ℕ) (pcm : List ℕ) : Type 0 where
  pub came : Option (List ℕ)
  pub plays : PlaysPeriod (IsSoftLine old.law) old.pcm new.pcm tick (idle_of old.law) came
  pub no_line : new.no_line ≡ no_line_after came old.no_line
  pub pcm_is : pcm ≡ unwrap_or came (replicate 160 (idle_of old.law))

-- **The recorded Up and Pcm are what came.**
pub record RecordsInput (old new : Call) (tick : ℕ) (up pcm : List ℕ) : Type 0 where
  pub brought : Brought
  pub station : HearsStation old new tick brought
  pub exchange : HearsExchange old new tick pcm
  pub up_is : WrittenUplink brought.frame brought.kind brought.taf up

-- **What a period sends to the base station**: the frame that Down carries, if it is sent. The marker is set with the
-- first speech after a gap.
pub record SpeaksToStation (old new : Call) (tick : ℕ) (down datagram : List ℕ) (answer : Bool) : Type 0 where
  pub frame : List ℕ
  pub kind : DownKind
  pub carried : IsCarried frame kind down
  pub sent_is : answer ≡ is_sent kind old.pause
  pub datagram_is : answer ≡ true → Carries datagram (header_at old.to_gsm tick (is_speech kind)) frame
  pub to_gsm : new.to_gsm ≡ station_after kind old.pause old.to_gsm
  pub pause : new.pause ≡ pause_after kind old.pause

-- **What it sends to the exchange**: the octets of Out, in each period.
pub record SpeaksToExchange (old new : Call) (tick : ℕ) (out datagram : List ℕ) : Type 0 where
  pub datagram_is : Carries datagram (header_at old.to_pcm tick true) out
  pub to_pcm : new.to_pcm ≡ sent old.to_pcm 160 true
