-- What a start and a stop record: states of a volume and of its plexes, and no other disk and no other name.
use Rattle.std.proofs.Common.{◌≡◌, ◌∙◌, ℕ, true, List, [], ◌∷◌, ◌++◌, map, append-nil, Option, refl, sym, ap}
use Rattle.std.specs.List.{filter_map, cons_option}
use Rattle.vx_base.specs.Named.{Word}
use Rattle.vx_copies.specs.Lists.{AllOf}
use Rattle.vx_config_parts.specs.declared.group.Group.{Group as GroupPart}
use Rattle.vx_config_parts.specs.declared.object.Object.{Object}
use Rattle.vx_config_parts.specs.declared.object.Object.TheVariants.{GroupRecord}
use Rattle.vx_config_parts.specs.declared.plex.Plex.{Plex}
use Rattle.vx_config_parts.specs.declared.state.PlexState.{PlexState}
use Rattle.vx_config_parts.specs.declared.state.VolState.{VolState}
use Rattle.vx_config_parts.specs.declared.state.VolState.TheVariants as vol
use Rattle.vx_config_parts.specs.declared.vol.Vol.{Vol}
use Rattle.vx_objects.specs.declared.config.Config.{Config}
use Rattle.vx_objects.specs.declared.edit.Edit.{Edit}
use Rattle.vx_objects.specs.Applied.{IsEdited}
use Rattle.vx_objects.specs.Config.{objects_of}
use Rattle.vx_objects.specs.Edits.{added, change, edited, edited_by}
use Rattle.vx_objects.specs.Parts.{as_disk, in_kinds, records_below}
use Rattle.vx_state_edits.specs.Edits.{is_new, plex_edit, plexes_of, policy_of, start_edits, started, state_edits, stop_edits, stopped, vol_edit}
use Rattle.vx_moments.specs.World.{World}
use Rattle.vx_sound.proofs.Configs.{disks_in, disks_made}
use Rattle.vx_sound.proofs.Edits.{IsGrown, IsKeeping, name_first, plex_kept, policy_kept, same_disks, same_grown}
use Rattle.vx_sound.proofs.Names.{IsApart, KeepsNames, RecordsVolume, has_named, made_named, named_filtered, plex_names, policy_names, recorded_named}

-- the edit changes records in their places, and neither a disk nor a name
pub record IsSetting (e : Edit) : Type 0 where
  pub keeps : IsKeeping e
  pub alone : added e ≡ []
  pub names : KeepsNames e

plex_set : (after : Plex → PlexState) (p : Plex) → IsSetting (plex_edit after p)
unfolding change added
plex_set after p = record {
  keeps = plex_kept p.name p.vol (after p) p.map;
  alone = refl;
  names = plex_names p.name p.vol (after p) p.map;
}

volume_set : (next : VolState) (v : Vol) → IsSetting (vol_edit next v)
unfolding added
volume_set next v = record {
  keeps = policy_kept v.name next (policy_of v.rdpol v.prefer);
  alone = refl;
  names = policy_names v.name next (policy_of v.rdpol v.prefer);
}

all_plexes_set : (after : Plex → PlexState) (ps : List Plex) → AllOf IsSetting (map (plex_edit after) ps)
all_plexes_set after [] = tt
all_plexes_set after (p ∷ ps) = (plex_set after p, all_plexes_set after ps)

all_set : (next : VolState) (after : Plex → PlexState) (c : Config) (v : Vol) → AllOf IsSetting (state_edits next after c v)
all_set next after c v = (volume_set next v, all_plexes_set after (plexes_of c v.name))

-- ---- edits one after the other

-- the records begin with that of the group, and have the same disks as these, and no other name
record HasKept (g : GroupPart) (os all : List Object) : Type 0 where
  rest : List Object
  is : all ≡ GroupRecord g ∷ rest
  disks : filter_map as_disk rest ≡ filter_map as_disk os
  names : (name : Word) → has_named name rest ≡ true → has_named name os ≡ true

module _ (g : GroupPart) (os : List Object) where
  one_set : (e : Edit) → IsSetting e → (all : List Object) → HasKept g os all → HasKept g os (edited e all)
  one_set e sets all was =
      let f : Object → Option Object = λ o. change e all o in
      record {
        rest = filter_map f was.rest;
        is =
            ap (λ (xs : List Object). edited_from f xs ++ added e) was.is ∙ ap (λ (x : Option Object). cons_option x (filter_map f was.rest) ++ added e) (sets.keeps.group all g)
            ∙ ap (λ (xs : List Object). GroupRecord g ∷ (filter_map f was.rest ++ xs)) sets.alone ∙ ap (λ (xs : List Object). GroupRecord g ∷ xs) (append-nil (filter_map f was.rest));
        disks = same_disks f (sets.keeps.disks all) was.rest ∙ was.disks;
        names = λ name h. was.names name (named_filtered name f (sets.names name all) was.rest h);
      }
    where
      edited_from : (Object → Option Object) → List Object → List Object
      edited_from f xs = filter_map f xs

  each_set : (es : List Edit) → AllOf IsSetting es → (all : List Object) → HasKept g os all → HasKept g os (edited_by es all)
  each_set [] sets all was = was
  each_set (e ∷ es) sets all was = each_set es sets.1 (edited e all) (one_set e sets.0 all was)

module _ (es : List Edit) (sets : AllOf IsSetting es) (old new : Config) (made : IsEdited es old new) where
  abbrev below : List Object
  below = records_below old.disks old.subdisks old.plexes old.volumes old.dcos old.snaps

  abbrev own : GroupPart
  own = record { name = old.group; version = old.version }

  kept : HasKept own below (edited_by es (objects_of old))
  kept = each_set own below es sets (objects_of old) (record { rest = below; is = refl; disks = refl; names = λ name h. h })

  after : objects_of new ≡ in_kinds (GroupRecord own ∷ kept.rest)
  after = made ∙ ap in_kinds kept.is

  pub set_grown : IsGrown old new
  set_grown = same_grown old new (ap name_first after) (disks_made new (GroupRecord own ∷ kept.rest) after ∙ kept.disks ∙ disks_in old)

  pub set_records : (name : Word) → RecordsVolume new name → RecordsVolume old name
  set_records name h = recorded_named old name ∙ kept.names name (sym (made_named new (GroupRecord own ∷ kept.rest) name after) ∙ h)

-- ---- other states of a volume and of its plexes

pub states_grown : (next : VolState) (after : Plex → PlexState) (v : Vol) (old new : Config) → IsEdited (state_edits next after old v) old new → IsGrown old new
states_grown next after v old new made = set_grown (state_edits next after old v) (all_set next after old v) old new made

pub states_apart : (next : VolState) (after : Plex → PlexState) (w : World) (v : Vol) (old new : Config) → IsEdited (state_edits next after old v) old new → IsApart old w → IsApart new w
states_apart next after w v old new made apart name h = apart name (set_records (state_edits next after old v) (all_set next after old v) old new made name h)

-- ---- a start and a stop

pub start_grown : (v : Vol) (old new : Config) → IsEdited (start_edits old v) old new → IsGrown old new
start_grown v old new made = states_grown vol.Active (started (is_new v.state)) v old new made

pub start_apart : (w : World) (v : Vol) (old new : Config) → IsEdited (start_edits old v) old new → IsApart old w → IsApart new w
start_apart w v old new made apart = states_apart vol.Active (started (is_new v.state)) w v old new made apart

pub stop_grown : (v : Vol) (marks : ℕ) (old new : Config) → IsEdited (stop_edits old v marks) old new → IsGrown old new
stop_grown v marks old new made = states_grown vol.Clean (stopped marks) v old new made

pub stop_apart : (w : World) (v : Vol) (marks : ℕ) (old new : Config) → IsEdited (stop_edits old v marks) old new → IsApart old w → IsApart new w
stop_apart w v marks old new made apart = states_apart vol.Clean (stopped marks) w v old new made apart
