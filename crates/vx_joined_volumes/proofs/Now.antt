-- The form of a running volume is that of the configuration of now, by the disks that were good as it was opened or are good now.
use Rattle.std.proofs.Common.{◌≡◌, ℕ, true, false, List, map, inr, sym, ◌∙◌, ap, subst}
use Rattle.std.specs.Prelude.{◌++◌, Contains}
use Rattle.vx_base.specs.Named.{Word}
use Rattle.vx_mask.specs.Mask.{has}
use Rattle.vx_mask.proofs.Sets.{in_union}
use Rattle.vx_piece.specs.Seen.{Seen}
use Rattle.vx_pages.specs.declared.local_piece.LocalPiece.{Ghosts}
use Rattle.vx_config_parts.specs.declared.plex.Plex.{Plex}
use Rattle.vx_config_parts.specs.declared.vol.Vol.{Vol}
use Rattle.vx_config_parts.specs.Objects.{is_data_plex_of}
use Rattle.vx_objects.specs.declared.config.Config.{Config}
use Rattle.vx_image.specs.Bytes.{map_or_zero}
use Rattle.vx_image.specs.Image.{PlexImage}
use Rattle.vx_image.proofs.PlexMembers.{IsIn}
use Rattle.vx_image.specs.UsedPlexes.{held_plexes, off_plexes, on_plexes, used_logs}
use Rattle.vx_lending.specs.Form.{IsFormOf, IsLayoutOf, IsMaskOf}
use Rattle.vx_lending.specs.declared.public.Running.{Running}
use Rattle.vx_group_volumes.specs.Opened.{WereThere, opened_plexes}
use Rattle.vx_group_volumes.specs.Places.{RunsInPlace, disks_at}
use Rattle.vx_group_volumes.specs.Runs.{Opening}
use Rattle.vx_group_volumes.proofs.Plexes.{opened_plex, plex_now}
use Rattle.vx_joined_volumes.specs.Joined.{good_joined, mask_of_slots, opening_joined}
use Rattle.vx_joined_volumes.proofs.Plexes.{IsSameData, IsSameLog, held_same, logs_same, maps_same, off_same, on_same}
use Rattle.vx_joined_volumes.proofs.Zips.{zip_map, zip_turn}

abbrev name_of_plex : Plex → Word
name_of_plex q = q.name

-- the data plex of the volume that has the name and map of an image
pub record IsNow (c : Config) (v : Vol) (x : PlexImage) : Type 0 where
  pub plex : Plex
  pub there : IsIn c.plexes plex
  pub own : is_data_plex_of v.name plex ≡ true
  pub name : plex.name ≡ x.name
  pub map : map_or_zero plex.map ≡ x.map

module _ {P : Type 0} {ghosts : Ghosts P} (see : P → Seen) (running : Running P ghosts) (c : Config) (good : ℕ) (numbers : List ℕ) (v : Vol) (placed : RunsInPlace see c good numbers v running) where
  abbrev o : Opening
  o = placed.runs.opening

  abbrev joined : ℕ
  joined = good_joined placed.runs.opening good

  pub more_good : (slot : ℕ) → has good slot ≡ true → has joined slot ≡ true
  more_good slot is = in_union (mask_of_slots (disks_at o)) good slot (inr is)

  pub form_now : IsFormOf c joined v false running.form
  form_now = record {
    shape_is = record {
      length_is = placed.runs.form.shape_is.length_is ∙ sym placed.runs.keeps.length_is;
      region_is = placed.runs.form.shape_is.region_is ∙ sym placed.runs.keeps.region_is;
      on = subst (λ ms. IsMaskOf ms running.form.shape.on) (sym (maps_same see running c good numbers v placed (on_plexes o.config o.good o.vol.name) (on_plexes c joined v.name) (on_same see running c good numbers v placed))) placed.runs.form.shape_is.on;
      off = subst (λ ms. IsMaskOf ms running.form.shape.off) (sym (maps_same see running c good numbers v placed (off_plexes o.config o.good o.vol.name) (off_plexes c joined v.name) (off_same see running c good numbers v placed))) placed.runs.form.shape_is.off;
      snaps = subst (λ ms. IsMaskOf ms running.form.shape.snaps) (sym placed.runs.keeps.relations) placed.runs.form.shape_is.snaps;
    };
    maps = placed.runs.form.maps ∙ sym (maps_same see running c good numbers v placed (held_plexes o.config o.good o.vol.name) (held_plexes c joined v.name) (held_same see running c good numbers v placed));
    layouts = zip_turn (IsSameData o.config o.good c joined) (IsLayoutOf o.config) (IsLayoutOf c)
        (λ q r l same lay. record { unit = lay.unit ∙ sym same.same.lies.unit; columns = lay.columns ∙ sym same.same.lies.columns })
        (held_plexes o.config o.good o.vol.name) (held_plexes c joined v.name) running.form.layouts.items (held_same see running c good numbers v placed) placed.runs.form.layouts;
    logs = zip_turn (IsSameLog o.config o.good o.fresh c joined) (IsLayoutOf o.config) (IsLayoutOf c)
        (λ q r l same lay. record { unit = lay.unit ∙ sym same.same.lies.unit; columns = lay.columns ∙ sym same.same.lies.columns })
        (used_logs o.vol.dco o.config o.good o.fresh o.vol.name) (used_logs v.dco c joined false v.name) running.form.logs.items (logs_same see running c good numbers v placed) placed.runs.form.logs;
  }

  -- the plexes that it counts as opened with, by the configuration of now
  pub names_now : opened_plexes (opening_joined placed.runs.opening c good v) ≡ opened_plexes placed.runs.opening
  names_now =
      ap (λ ns. ns ++ map name_of_plex (used_logs v.dco c joined false v.name))
      (zip_map (IsSameData o.config o.good c joined) name_of_plex name_of_plex (λ x y s. s.same.name) (held_plexes o.config o.good o.vol.name) (held_plexes c joined v.name) (held_same see running c good numbers v placed))
      ∙ ap (λ ns. map name_of_plex (held_plexes o.config o.good o.vol.name) ++ ns)
      (zip_map (IsSameLog o.config o.good o.fresh c joined) name_of_plex name_of_plex (λ x y s. s.same.name) (used_logs o.vol.dco o.config o.good o.fresh o.vol.name) (used_logs v.dco c joined false v.name) (logs_same see running c good numbers v placed))

  -- an image that was one of its data plexes by name and map is one now
  pub image_now : (plexes : List PlexImage) → WereThere placed.runs.opening plexes → (x : PlexImage) → Contains plexes x → IsNow c v x
  image_now plexes were x here =
      let q = opened_plex o plexes were x here in
      let r = plex_now o.config o.good o.vol o.fresh c good v placed.runs.keeps q.plex q.there q.data_is in
      record { plex = r.plex; there = r.there; own = r.data_is; name = r.keeps.name ∙ q.name_is; map = r.keeps.map ∙ q.map_is }
