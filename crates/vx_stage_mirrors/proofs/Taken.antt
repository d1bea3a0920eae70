-- A plex of which all disks are good can be taken.
use Rattle.std.proofs.Common.{◌≡◌, ℕ, ◌<◌, ◌≤◌, true, List, [], ◌∷◌, length, map, sym, subst, arith}
use Rattle.std.specs.List.{All}
use Rattle.std.proofs.lemmas.List.Elements.{All-nil, All-cons, All-contains}
use Rattle.vx_layout.specs.declared.layout.Layout.{Layout}
use Rattle.vx_layout.specs.declared.strip.Strip.{Strip}
use Rattle.vx_layout.specs.Columns.{capacity}
use Rattle.vx_carve.specs.Strips.{ArePlexes, EachStrip, HasNumber, lies_in}
use Rattle.vx_config_parts.specs.declared.disk.Disk.{Disk}
use Rattle.vx_image.specs.Lies.{columns_of}
use Rattle.vx_image.specs.Room.{public_of}
use Rattle.vx_image.proofs.PlexMembers.{plex_in}
use Rattle.vx_image.proofs.Plexes.{config_valid}
use Rattle.vx_image.proofs.Shapes.{holds_its_volume}
use Rattle.vx_image.proofs.Members.{contains, is_in}
use Rattle.vx_lending.specs.FormLaws.{good_disks}
use Rattle.vx_lending.proofs.Places.{columns_lie}
use Rattle.vx_stage_mirrors.specs.PlaceLaws.{EachHeldPlexCanBeTaken}
use Rattle.vx_stage_mirrors.proofs.Strips.{each_strip, lies_on}

-- a strip on numbered disks has a number
numbered_strip : (numbers : List ℕ) (disks : List Disk) → All (λ (d : Disk). d.slot < length numbers) disks → (x : Strip) → lies_in (map public_of disks) x ≡ true → HasNumber numbers x
numbered_strip numbers disks all x lies =
    let on = lies_on disks x lies in
    subst (λ n. n < length numbers) on.slot (All-contains (λ (d : Disk). d.slot < length numbers) disks on.disk all (contains disks on.disk on.there))

-- a layout of numbered strips is that of one plex
one_layout : (numbers : List ℕ) (l : Layout) → EachStrip (HasNumber numbers) l.columns → ArePlexes numbers (l ∷ [])
one_layout numbers l numbered =
    record {
      numbered = All-cons (λ (l : Layout). EachStrip (HasNumber numbers) l.columns) l [] numbered (All-nil (λ (l : Layout). EachStrip (HasNumber numbers) l.columns));
      apart = λ j k d lt lt' other. absurd (other (omega (arith, lt, lt')));
    }

pub held_taken : EachHeldPlexCanBeTaken
held_taken c good p l there held lay numbers have =
    let disks = good_disks good c.disks in
    let numbered : EachStrip (HasNumber numbers) (columns_of c p) = each_strip (lies_in (map public_of disks)) (HasNumber numbers) (columns_of c p) (λ x on lies. numbered_strip numbers disks have x lies) (columns_lie c good p held p.ncol 0) in (
      one_layout numbers l (subst (EachStrip (HasNumber numbers)) (sym lay.columns) numbered),
      λ v of own. subst (λ columns. v.len ≤ capacity columns) (sym lay.columns) (holds_its_volume c (config_valid c) p (plex_in c p (is_in c.plexes p there)) v of own),
    )
