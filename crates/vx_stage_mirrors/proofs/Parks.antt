-- The plex of a mirror can be taken out of the pool of its group, for its running volume.
use Rattle.std.proofs.Common.{◌≡◌, ◌∙◌, ℕ, ◌≤◌, ◌^◌, true, List, [], ◌∷◌, map, Option, Some, None, refl, sym, subst, inl}
use Rattle.std.specs.Prelude.{Contains, IsSomeAnd, vec_capacity}
use Rattle.std.specs.Global.{Vec}
use Rattle.vx_pages.specs.declared.local_piece.LocalPiece.{Ghosts}
use Rattle.vx_base.specs.Named.{Word}
use Rattle.vx_piece.specs.Seen.{Seen}
use Rattle.vx_block.specs.Regions.{region_count}
use Rattle.vx_block.specs.declared.geometry.Geometry.{Geometry}
use Rattle.vx_carve.specs.Together.{SameSectors}
use Rattle.vx_carve.proofs.Same.{same_refl}
use Rattle.vx_layout.specs.declared.layout.Layout.{Layout}
use Rattle.vx_layout.specs.Columns.{capacity}
use Rattle.vx_carve.specs.Strips.{ArePlexes, EachStrip, IsFreeStrip}
use Rattle.vx_copies.specs.Disks.{good_mask}
use Rattle.vx_confdb.specs.Groups.{members}
use Rattle.vx_config_parts.specs.declared.object.Object.TheVariants.{PlexRecord}
use Rattle.vx_config_parts.specs.Objects.{is_data_plex_of}
use Rattle.vx_objects.specs.Config.{objects_of}
use Rattle.vx_objects.specs.declared.config.Config.{Config}
use Rattle.vx_image.specs.Bytes.{is_held}
use Rattle.vx_image.specs.Lies.{IsPlexOf}
use Rattle.vx_image.proofs.PlexMembers.{IsIn, in_one, in_right, plex_in}
use Rattle.vx_image.proofs.Members.{contains, is_in}
use Rattle.vx_lending.specs.Form.{IsLayoutOf}
use Rattle.vx_lending.specs.FormLaws.{AreNumbered}
use Rattle.vx_lending.specs.Public.{running_at, still_pieces}
use Rattle.vx_lending.specs.declared.public.Public.{Public}
use Rattle.vx_lending.specs.declared.public.Running.{Running}
use Rattle.vx_plex_pieces.specs.Parked.{IsParked}
use Rattle.vx_group_edits.specs.Joins.{Joins, plexes_in}
use Rattle.vx_group_edits.proofs.Joined.{plex_joins}
use Rattle.vx_house.specs.Runs.{IsInPlace}
use Rattle.vx_house.specs.View.{IsGroupKept}
use Rattle.vx_house.specs.declared.house.Imported.{Imported}
use Rattle.vx_stage_mirrors.specs.PlaceLaws.{EachHeldPlexCanBeTaken, EachNewPlexIsFree}
use Rattle.vx_stage_volumes.specs.Disks.{have_disks}
use Rattle.vx_stage_volumes.specs.Opening.{AreSlotNumbers, good_of}
use Rattle.vx_stage_volumes.specs.Parting.{IsReadyToOpen}
use Rattle.vx_stage_volumes.proofs.Entries.{entry_found}
use Rattle.vx_stage_volumes.proofs.Free.{room_by}
use Rattle.vx_stage_volumes.proofs.Owned.{numbered_by, ready_by}
use Rattle.vx_stage_mirrors.specs.declared.planning.PlannedMirror.{PlannedMirror}
use Rattle.vx_stage_mirrors.specs.Parking.{LiesOtherwise}
use Rattle.vx_stage_mirrors.specs.ParkedPieces.{IsAddition, IsParkedFor}

some_with : {X : Type 0} (o : Option X) (Q : X → Type 0) → IsSomeAnd o Q → (x : X) × (o ≡ Some x) × Q x
some_with None Q h = absurd h
some_with (Some x) Q h = (x, refl, h)

-- ---- the group, with other parts of its devices

module _ {P : Type 0} {ghosts : Ghosts P} (see : P → Seen) (g : Imported P ghosts) (config : Config) (config_is : config ≡ g.config) where
  pub lies_with : (public : Public P ghosts) → public.running ≡ g.public.running → public.stuck ≡ g.public.stuck → SameSectors (still_pieces see g.public) (still_pieces see public) → LiesOtherwise see g (record { config = config; base = g.base; public = public })
  lies_with public running stuck still = record {
    group = λ i. record { config = config_is i; base = g.base; public = record { pool = public.pool; left = public.left; running = running i; stuck = stuck i } };
    still = still;
  }

  pub lies_same : LiesOtherwise see g (record { config = config; base = g.base; public = g.public })
  lies_same = lies_with g.public refl refl (same_refl (still_pieces see g.public))

-- ---- its plex

module _ {P : Type 0} {ghosts : Ghosts P} (g : Imported P ghosts) (kept : IsGroupKept ghosts.seen g) (name : Word) (p : PlannedMirror) (addition : IsAddition g.config name p) where
  abbrev see : P → Seen
  see = ghosts.seen

  all : Joins g.config name addition.added p.next.config
  all = plex_joins g.config p.next.config name addition.added addition.of addition.edited

  alone : Contains (plexes_in addition.added) p.plex
  alone = subst (λ ps. Contains ps p.plex) (sym addition.alone) (contains (p.plex ∷ []) p.plex (inl refl))

  recorded : IsIn p.next.config.plexes p.plex
  recorded = subst (λ ps. IsIn ps p.plex) (sym all.plexes) (in_right g.config.plexes (plexes_in addition.added) p.plex (is_in (plexes_in addition.added) p.plex alone))

  pub is_plex : IsPlexOf p.next.config p.plex
  is_plex = in_one (objects_of p.next.config) (PlexRecord p.plex) (plex_in p.next.config p.plex recorded)

  module _ (ready : IsReadyToOpen see g) (held : is_held p.next.config (good_of see g) p.plex ≡ true) (found : have_disks g.base.disks.items (good_of see g) g.config.disks ≡ true)
      (numbers : List ℕ) (are : AreSlotNumbers see g numbers) (l : Layout) (lay : IsLayoutOf p.next.config p.plex l) where
    pub free : EachNewPlexIsFree see g → EachStrip (IsFreeStrip numbers (map see g.public.pool.items.items)) l.columns
    free law =
        law kept (record { short = ready.open_group; left = ready.left; stuck = ready.stuck }) p.next.config name addition.added addition.of addition.edited p.plex alone held l lay numbers
        (room_by see g.base.disks.items kept.slots kept.carries.alive.ready numbers (2 ^ 32) are (good_of see g) g.config.disks found)

    numbered : AreNumbered numbers (good_of see g) p.next.config.disks
    numbered = subst (λ ds. AreNumbered numbers (good_of see g) ds) (sym all.disks) (numbered_by see g.base.disks.items (ready_by see g kept) (good_of see g) g.config.disks found numbers are.long)

    pub plexes : EachHeldPlexCanBeTaken → ArePlexes numbers (l ∷ [])
    plexes law = (law p.next.config (good_of see g) p.plex l (contains p.next.config.plexes p.plex recorded) held lay numbers numbered).0

    inside : EachHeldPlexCanBeTaken → (r : Running P ghosts) → running_at g.public name ≡ Some r → r.form.shape.geometry.length ≤ capacity l.columns
    inside law r there =
        let place : IsInPlace see (members see g.base) g.config (good_of see g) name r =
        entry_found (λ n x. IsInPlace see (members see g.base) g.config (good_mask (members see g.base)) n x) name g.public.running.entries r kept.placed there in
        let runs = place.placed.runs in
        let own : is_data_plex_of place.of.name p.plex ≡ true = subst (λ n. is_data_plex_of n p.plex ≡ true) (sym place.named) addition.own in
        let fits : place.of.len ≤ capacity l.columns =
        (law p.next.config (good_of see g) p.plex l (contains p.next.config.plexes p.plex recorded) held lay numbers numbered).1 place.of (all.recorded place.of runs.recorded) own in
        subst (λ n. n ≤ capacity l.columns) (sym (runs.form.shape_is.length_is ∙ sym runs.keeps.length_is)) fits

    pub inside_by : EachHeldPlexCanBeTaken → (geometry : Geometry) → IsSomeAnd (running_at g.public name) (λ r. geometry ≡ r.form.shape.geometry) → geometry.length ≤ capacity l.columns
    inside_by law geometry there =
        let r = some_with (running_at g.public name) (λ r. geometry ≡ r.form.shape.geometry) there in
        subst (λ x. x.length ≤ capacity l.columns) (sym r.2) (inside law r.0 r.1)

    -- what was parked is parked for it
    pub parked_for : (new : Imported P ghosts) (room : Vec (Vec P)) (geometry : Geometry) → IsSomeAnd (running_at g.public name) (λ r. geometry ≡ r.form.shape.geometry) → IsParked see numbers p.map l geometry g.public new.public →
        room.items ≡ [] → region_count geometry.length geometry.region ≤ vec_capacity room → IsParkedFor see name p (record { layout = l; room = room }) g new
    parked_for new room geometry there parked empty enough =
        let r = some_with (running_at g.public name) (λ r. geometry ≡ r.form.shape.geometry) there in
        record {
          numbers = numbers;
          slots = are;
          layout = lay;
          running = r.0;
          there = r.1;
          taken = subst (λ x. IsParked see numbers p.map l x g.public new.public) r.2 parked;
          empty = empty;
          enough = subst (λ x. region_count x.length x.region ≤ vec_capacity room) r.2 enough;
        }
