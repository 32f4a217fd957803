-- The listing of the frames on an uplink as a block machine, and what it keeps (this project's profile).
use Rattle.std.specs.Prelude.{◌≡◌, ℕ, ◌≤◌, List, [], ◌++◌, length, reverse, codes, decimal}
use Rattle.std.specs.List.{flat_map}
use Rattle.trau_io.specs.declared.line.Side.TheVariants.{Up, Down}
use Rattle.frame_sync.specs.declared.yields.Yield.{Yield}
use Rattle.frame_sync.specs.Yields.{Yields}
use Rattle.frame_sync.specs.Periods.{ArePeriods, all_bits, all_yields}
use Rattle.frame_sync.specs.Memory.{SyncMemory}
use Rattle.frame_sync.specs.Stands.{Stands}
use Rattle.block_lines.specs.Machines.{Machine}
use Rattle.frame_listing.specs.declared.listing.Listing.{Listing}
use Rattle.frame_listing.specs.Texts.{line_of, listed}

-- It takes every period of 40 octets, and less than a period may be left. It writes to no line, so the side `to` means
-- nothing. It prints a line of text for each yield, and at the end how many yields there were and how many octets are
-- left.
abbrev pub frames_machine : Machine
frames_machine = record {
  shape = record { octets = 40; from = Up; lines = 0; to = Down };
  takes = λ block. Unit {0};
  may_be_left = λ rest. Unit {0};
  made = λ j blocks rest. [];
  printed = λ blocks rest. listed blocks;
  done_text = λ blocks rest. codes "frames " ++ (decimal (length (all_yields blocks)) ++ (codes " left " ++ (decimal (length rest) ++ codes "\n")));
  refused_text = λ n. [];
}

-- the search after these periods, and the number of their yields, at most one a period
pub record Lists (sync : SyncMemory) (yields : ℕ) (periods : List (List ℕ)) : Type 0 where
  pub search : Stands (reverse periods) sync
  pub yields_are : yields ≡ length (all_yields periods)
  pub at_most : yields ≤ length periods

abbrev pub ListingStands : Listing → List (List ℕ) → Type 0
ListingStands l periods = Lists l.sync l.yields periods

-- what is printed of these periods, whatever octets are left: a line of text for each of these yields, and at the end
-- their number
pub record PrintsYields (periods : List (List ℕ)) (ys : List Yield) : Type 0 where
  pub lines : (rest : List ℕ) → frames_machine.printed periods rest ≡ flat_map line_of ys
  pub number : (rest : List ℕ) → frames_machine.done_text periods rest
      ≡ codes "frames " ++ (decimal (length ys) ++ (codes " left " ++ (decimal (length rest) ++ codes "\n")))

-- The yields that are printed are all yields of the periods' bits as one list: whatever list of yields those bits have,
-- it is printed.
abbrev pub PrintsAllYields : Type 0
PrintsAllYields = (periods : List (List ℕ)) (ys : List Yield) → ArePeriods periods → Yields (all_bits periods) ys → PrintsYields periods ys
