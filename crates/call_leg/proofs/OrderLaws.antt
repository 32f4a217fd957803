-- For crates above: a new leg stands for its call (`new-stands`), and a leg still does after each order between
-- periods.
use Rattle.std.proofs.Common.{◌≡◌, refl, sym, ◌∙◌, subst, ℕ, ℤ, true, None, List, [], length}
use Rattle.std.proofs.lemmas.Bool.{true≢false}
use Rattle.std.proofs.lemmas.List.Elements.{All-nil}
use Rattle.trau_orders.specs.declared.order.DtxMode.{DtxMode}
use Rattle.frame_sync.specs.Periods.{mode_after}
use Rattle.frame_sync.specs.Stands as search
use Rattle.frame_sync.specs.Memory.{home_memory as search_home}
use Rattle.rx_handler.specs.Past.{anchor_of, draw_count}
use Rattle.rx_handler.specs.Stands as rx
use Rattle.rx_handler.specs.Memory.{home_memory as rx_home}
use Rattle.rx_muting.specs.Draws.{state_after}
use Rattle.fr_decoder.specs.Stands as decoder
use Rattle.fr_decoder.specs.Memory.{home_memory as decoder_home}
use Rattle.fr_decoder.proofs.Frames as decoding
use Rattle.fr_encoder.proofs.Frames as encoding
use Rattle.down_framer.specs.Made.{handed_due}
use Rattle.call_leg.specs.Who.{Who}
use Rattle.call_leg.specs.Periods.{CallPeriod}
use Rattle.call_leg.specs.Settings.{Settings, new_settings, with_level, with_mode, with_bridge, without_bridge}
use Rattle.call_leg.specs.Down.{down_periods, frames_of}
use Rattle.call_leg.specs.Memory.{home_down, LegMemory, home_memory}
use Rattle.call_leg.specs.Places.{Between}
use Rattle.call_leg.specs.Stands.{Stands}
use Rattle.call_leg.specs.Step.{with_down, set_level, set_mode, bridge_begun, begin_bridge, bridge_over}
use Rattle.call_leg.specs.Halves.{up_of, up_unbridged}
use Rattle.call_leg.proofs.Downlink.Numbered.{next-ahead, all-come, length-made}
use Rattle.call_leg.proofs.Downlink.Bridges.{plain-new, begins}
use Rattle.call_leg.proofs.Downlink.Laws.{home_tx-stands}
use Rattle.call_leg.proofs.HalfLaws.{up_off-stands, down_off-stands}
use Rattle.call_leg.proofs.LegLaws.{join-stands}

-- a level and a mode are set
set-stands : (who : Who) (ts : List CallPeriod) (now : Settings) (m : LegMemory) (level level1 : ℤ) (mode mode1 : DtxMode) → level1 ≡ level → mode1 ≡ mode →
    Stands who ts now m →
    Stands who ts (record now { level = level; mode = mode }) (with_down m (record m.down { level = level1; mode = mode1 }))
set-stands who ts now m level level1 mode mode1 el em h =
    let d = h.down in
    record {
      up = record { law = h.law; search = h.search; rx = h.rx; decoder = h.decoder; counts = h.counts; bridged = h.bridged };
      down = record {
        held = record {
          law = d.law;
          pcms = d.pcms;
          history = d.history;
          places = d.places;
          frozen = d.frozen;
          coded = d.coded;
          sent = d.sent;
          made = d.made;
          level = el;
          mode = em;
          bridged = d.bridged;
          alone = d.alone;
          goes_on = d.goes_on;
        };
        ahead = d.ahead;
        come = d.come;
        line = d.line;
        waits = d.waits;
        kept = d.kept;
        dtxd = d.dtxd;
      };
    }

-- the level
pub level-stands : (who : Who) (ts : List CallPeriod) (now : Settings) (level : ℤ) (m : LegMemory) → Stands who ts now m →
    Stands who ts (with_level level now) (with_down m (set_level level m.down))
level-stands who ts now level m h = set-stands who ts now m level level now.mode m.down.mode refl h.down.mode h

-- the DTX mode
pub mode-stands : (who : Who) (ts : List CallPeriod) (now : Settings) (mode : DtxMode) (m : LegMemory) → Stands who ts now m →
    Stands who ts (with_mode mode now) (with_down m (set_mode mode m.down))
mode-stands who ts now mode m h = set-stands who ts now m now.level m.down.level mode mode h.down.level refl h

-- a bridge begins
pub begin-stands : (who : Who) (ts : List CallPeriod) (now : Settings) (m : LegMemory) → handed_due (down_periods ts) (frames_of ts) ≡ None →
    Stands who ts now m →
    Stands who ts (with_bridge now) (begin_bridge m)
begin-stands who ts now m n h = record {
  up = record {
    law = h.law;
    search = h.search;
    rx = h.rx;
    decoder = subst (λ z. decoder.Stands z decoder_home) (sym (plain-new who.number ts)) decoding.home-stands;
    counts = h.counts;
    bridged = refl;
  };
  down = begins who ts now m.down (bridge_begun m.down) n h.down refl refl encoding.home-stands home_tx-stands refl refl refl refl refl refl refl refl refl;
}

-- a bridge ends
pub end-stands : (who : Who) (ts : List CallPeriod) (now : Settings) (m : LegMemory) → now.bridged ≡ true → Stands who ts now m →
    Stands who ts (without_bridge now) (with_down m (bridge_over m.down))
end-stands who ts now m b h =
    join-stands who ts (without_bridge now) (up_unbridged (up_of m)) (bridge_over m.down) (up_off-stands who ts now (up_of m) h.up)
    (down_off-stands who ts now m.down (h.down.bridged ∙ b) h.down)

-- before the first period
pub home-between : (who : Who) → Between who [] new_settings (home_down who.law)
home-between who = record {
  held = record {
    law = refl;
    pcms = All-nil (λ t. length t.pcm ≡ 160);
    history = tt;
    places = record { held = refl; to_skip = refl; stored = refl };
    frozen = refl;
    coded = record { encoder = encoding.home-stands; tx = home_tx-stands };
    sent = refl;
    made = refl;
    level = refl;
    mode = refl;
    bridged = refl;
    alone = λ e. refl;
    goes_on = λ e. absurd (true≢false (sym e));
  };
  ahead = next-ahead [];
  come = all-come [];
  line = length-made who [];
  waits = record { each = λ n. refl };
  kept = refl;
  dtxd = refl;
}

-- nothing was searched or heard yet
home_search : search.Stands [] search_home
unfolding mode_after search.last_bits
home_search = record { periods = All-nil (λ o. length o ≡ 40); after = refl }

home_rx : (call : ℕ) → rx.Stands call [] (rx_home call)
unfolding anchor_of draw_count state_after
home_rx call = record { state = refl; source = refl }

-- **A new leg stands for a call before its first period.**
pub new-stands : (who : Who) → Stands who [] new_settings (home_memory who)
new-stands who = record {
  up = record { law = refl; search = home_search; rx = home_rx who.number; decoder = decoding.home-stands; counts = refl; bridged = refl };
  down = home-between who;
}
