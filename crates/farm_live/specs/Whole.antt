-- A whole call by its posts: A-law, level 256, discontinuous transmission as the uplink asks, no bridge.
use Rattle.std.specs.Prelude.{ℕ, pos, List, [], length, replicate}
use Rattle.std.specs.List.{flat_map}
use Rattle.trau_orders.specs.declared.order.DtxMode.TheVariants.{Uplink}
use Rattle.call_spec.specs.Call.{Call, Setting}
use Rattle.farm_live.specs.declared.post.Post.{Post}
use Rattle.farm_live.specs.declared.post.Entry.{Entry}
use Rattle.farm_live.specs.Book.{who_at}

abbrev pub setting : Setting
setting = record { level = pos 256; mode = Uplink }

-- the call with this number whose periods are these posts
abbrev pub call_of_posts : ℕ → List Post → Call
call_of_posts call ps = record {
  who = who_at call;
  up = flat_map (λ p. p.up) ps;
  pcm = flat_map (λ p. p.pcm) ps;
  settings = replicate (length ps) setting;
  spans = [];
}

-- the octets of a history on the outgoing lines
abbrev pub outs_of : List Entry → List ℕ
outs_of es = flat_map (λ e. e.out) es

abbrev pub downs_of : List Entry → List ℕ
downs_of es = flat_map (λ e. e.down) es
