-- Which plexes running volumes have the pieces of, told by where these lie.
use Rattle.std.specs.Prelude.{ℕ, ◌&&◌, ◌||◌, ◌==◌, Bool, false, if◌then◌else◌, Option, Some, None, List, [], ◌∷◌}
use Rattle.std.specs.List.{filter_map, find, list_any}
use Rattle.vx_base.specs.Named.{Word}
use Rattle.vx_layout.specs.declared.layout.Layout.{Layout}
use Rattle.vx_layout.specs.declared.strip.Strip.{Strip}
use Rattle.vx_layout.specs.Columns.{column_at}
use Rattle.vx_config_parts.specs.declared.disk.Disk.{Disk}
use Rattle.vx_config_parts.specs.declared.plex.Plex.{Plex}
use Rattle.vx_config_parts.specs.declared.subdisk.Subdisk.{Subdisk}
use Rattle.vx_rules.specs.Columns.{is_in_column}
use Rattle.vx_objects.specs.declared.config.Config.{Config}
use Rattle.vx_image.specs.Lies.{slot_of}
use Rattle.vx_pages.specs.declared.local_piece.LocalPiece.{Ghosts}
use Rattle.vx_lending.specs.declared.form.VolumeForm.{VolumeForm}
use Rattle.vx_lending.specs.declared.public.Public.{Public}
use Rattle.vx_lending.specs.declared.public.Running.{Running}
use Rattle.vx_lending.specs.Public.{running_at}

-- ---- where a layout begins

abbrev pub starts_at : List Strip → ℕ → ℕ → Bool
starts_at [] disk start = false
starts_at (strip ∷ strips) disk start = strip.disk == disk && strip.start == start

-- the first strip of its first column begins at this sector of the disk
abbrev pub begins_at : List (List Strip) → ℕ → ℕ → Bool
begins_at columns disk start = starts_at (column_at columns 0) disk start

-- one of these layouts begins there
abbrev pub begin_at : List Layout → ℕ → ℕ → Bool
begin_at layouts disk start = list_any (λ l. begins_at l.columns disk start) layouts

-- a plex or a log of the form does
abbrev pub form_begins : VolumeForm → ℕ → ℕ → Bool
form_begins form disk start = begin_at form.layouts.items disk start || begin_at form.logs.items disk start

-- ---- where a plex begins

-- the subdisk that begins the plex of that name
abbrev pub first_piece : Config → Word → Option Subdisk
first_piece c plex = find (λ s. is_in_column plex 0 s && s.at == 0) c.subdisks

-- a layout of the form begins where the piece lies
abbrev pub lies_by : List Disk → VolumeForm → Option Subdisk → Bool
lies_by disks form None = false
lies_by disks form (Some s) = form_begins form (slot_of disks s.disk) s.off

-- ---- the plexes of running volumes

-- the volume runs, with the pieces of the plex of that name
abbrev pub runs_by : {P : Type 0} {ghosts : Ghosts P} → Config → Option (Running P ghosts) → Word → Bool
runs_by c None plex = false
runs_by c (Some r) plex = lies_by c.disks r.form (first_piece c plex)

-- the volume that the plex is of does
abbrev pub is_lent_by : {P : Type 0} {ghosts : Ghosts P} → Config → Public P ghosts → Option Word → Word → Bool
is_lent_by c public None plex = false
is_lent_by c public (Some vol) plex = runs_by c (running_at public vol) plex

abbrev pub lent_name : {P : Type 0} {ghosts : Ghosts P} → Config → Public P ghosts → Plex → Option Word
lent_name c public p = if is_lent_by c public p.vol p.name then Some p.name else None

-- the names of the plexes of which it is so
abbrev pub lent_plexes : {P : Type 0} {ghosts : Ghosts P} → Config → Public P ghosts → List Word
lent_plexes c public = filter_map (lent_name c public) c.plexes
