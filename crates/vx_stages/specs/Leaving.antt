-- `vxplex dis`: the tests in their order, what is changed in the group, what has to be done before, and why the command is refused.
use Rattle.std.specs.Prelude.{◌≡◌, ◌⊎◌, ℕ, ◌&&◌, ◌==◌, Bool, true, false, not, if◌then◌else◌, is_some, Option, Some, None, List, [], ◌∷◌, length}
use Rattle.std.specs.List.{list_any}
use Rattle.std.specs.Str.{bytes_eq}
use Rattle.vx_base.specs.Named.{Word}
use Rattle.vx_config_parts.specs.declared.plex.Plex.{Plex}
use Rattle.vx_config_parts.specs.declared.state.PlexState.{PlexState}
use Rattle.vx_config_parts.specs.declared.state.PlexState.TheVariants as plex_state
use Rattle.vx_config_parts.specs.declared.vol.Vol.{Vol}
use Rattle.vx_config_parts.specs.Objects.{is_data_plex_of, is_log_plex_of, refers}
use Rattle.vx_objects.specs.declared.config.Config.{Config}
use Rattle.vx_objects.specs.declared.edit.Edit.{Edit}
use Rattle.vx_objects.specs.declared.edit.Edit.TheVariants.{RemovePlex, SetPlex}
use Rattle.vx_state_edits.specs.Edits.{is_new}
use Rattle.vx_image.specs.Bytes.{is_held}
use Rattle.vx_image.specs.UsedPlexes.{used_logs}
use Rattle.vx_answers.specs.declared.answer.End.{End}
use Rattle.vx_answers.specs.declared.refusal.Refusal.{Refusal}
use Rattle.vx_answers.specs.declared.refusal.Refusal.TheVariants as refusal
use Rattle.vx_moments.specs.World.{Group}
use Rattle.vx_stages.specs.Logging.{AreEditsRefused}
use Rattle.vx_stages.specs.Mirroring.{RefusedFor}
use Rattle.vx_stages.specs.Plexes.{plex_in}
use Rattle.vx_stages.specs.Starting.{first_of}
use Rattle.vx_stages.specs.Tests.{is_data, unless, volume_in, where_}

-- ---- what is changed

-- The plex is removed with its subdisks, or it is of no volume then, and empty.
abbrev pub leaving_edits : (remove : Bool) → Plex → List Edit
leaving_edits true p = RemovePlex p.name ∷ []
leaving_edits false p = SetPlex p.name None plex_state.Empty None ∷ []

-- ---- what has to be done before

-- How a plex is taken out of its volume: by its record alone; out of a running volume, whose log gives up the copy that lies on it, if there is one;
-- out of one that comes to rest; or out of one that does not run, whose log says which regions miss something.
pub data Way : Type 0 where
  ByRecord : Way
  FromLog : Way
  FromRest : Way
  ByLog : Way

-- a volume that was started before has a log to ask; else nothing is missing on any plex
abbrev pub is_asked : Vol → Bool
is_asked v = is_some v.dco && not (is_new v.state)

-- the way of a data plex, or of a log plex, of a volume that runs or not
abbrev pub way_of : (data_is runs : Bool) → Vol → Way
way_of true true v = FromRest
way_of true false v = if is_asked v then ByLog else ByRecord
way_of false true v = FromLog
way_of false false v = ByRecord

-- ---- the tests

-- the plex is another one than that of the name
abbrev pub is_besides : Word → Plex → Bool
is_besides name q = not (bytes_eq q.name name)

-- a log plex in this state is of the volume's log
abbrev pub is_log_state : PlexState → Bool
is_log_state plex_state.Active = true
is_log_state plex_state.Empty = true
is_log_state other = false

-- the volume has another such log plex, all of whose disks are good
abbrev pub has_other_log : Config → (good : ℕ) → Word → Word → Bool
has_other_log c good vol name = list_any (λ (q : Plex). is_log_plex_of vol q && (is_log_state q.state && (is_held c good q && is_besides name q))) c.plexes

-- the volume has another data plex
abbrev pub has_other_data : Config → Word → Word → Bool
has_other_data c vol name = list_any (λ (q : Plex). is_data_plex_of vol q && is_besides name q) c.plexes

-- the plex is the only one of its kind that the volume has, and cannot be spared
abbrev pub is_last : Config → (good : ℕ) → Word → Plex → Bool
is_last c good vol p = if is_data p.kind then not (has_other_data c vol p.name) else (is_log_state p.state && not (has_other_log c good vol p.name))

-- no log plex that has to be asked lies on good disks
abbrev pub way_refusal : Way → Config → (good : ℕ) → Vol → Option Refusal
way_refusal ByRecord c good v = None
way_refusal FromLog c good v = None
way_refusal FromRest c good v = None
way_refusal ByLog c good v = where_ (length (used_logs v.dco c good false v.name) == 0) (refusal.NoLog v.name)

-- The tests of a plex of the volume, which runs or not: reads do not prefer it, there is a log where one has to be asked, and it is not the last.
abbrev pub volume_leaving_refusal : (runs : Bool) → Config → (good : ℕ) → Vol → Plex → Option Refusal
volume_leaving_refusal runs c good v p =
    first_of (where_ (refers v.prefer p.name) (refusal.NoObject p.name))
    (first_of (way_refusal (way_of (is_data p.kind) runs v) c good v)
    (where_ (is_last c good v.name p) (refusal.OnlyPlex p.name)))

-- .. and before them, there is a volume of the name that the plex has
abbrev pub named_leaving_refusal : (runs : Word → Bool) → Config → (good : ℕ) → Plex → Word → Option Vol → Option Refusal
named_leaving_refusal runs c good p vol None = Some (refusal.NoObject vol)
named_leaving_refusal runs c good p vol (Some v) = volume_leaving_refusal (runs v.name) c good v p

-- a plex without a volume can only be removed
abbrev pub plex_leaving_refusal : (runs : Word → Bool) → Config → (good : ℕ) → (remove : Bool) → Plex → Option Word → Option Refusal
plex_leaving_refusal runs c good remove p None = unless remove (refusal.PlexState p.state)
plex_leaving_refusal runs c good remove p (Some vol) = named_leaving_refusal runs c good p vol (volume_in vol c.volumes)

-- .. and before them, there is a plex of the name
abbrev pub found_leaving_refusal : (runs : Word → Bool) → Config → (good : ℕ) → (remove : Bool) → Word → Option Plex → Option Refusal
found_leaving_refusal runs c good remove name None = Some (refusal.NoObject name)
found_leaving_refusal runs c good remove name (Some p) = plex_leaving_refusal runs c good remove p p.vol

-- the first test that refuses that the plex of the name leaves its volume
abbrev pub leaving_refusal : (runs : Word → Bool) → Config → (good : ℕ) → (remove : Bool) → Word → Option Refusal
leaving_refusal runs c good remove name = found_leaving_refusal runs c good remove name (plex_in name c.plexes)

-- No test refuses that the plex of the name leaves: it is this one.
pub record MayLeave (runs : Word → Bool) (g : Group) (remove : Bool) (name : Word) (p : Plex) : Type 0 where
  pub found : plex_in name g.config.plexes ≡ Some p
  pub fits : leaving_refusal runs g.config g.good remove name ≡ None

-- It is refused in a group: a test refuses it, or the configuration does not take its state.
abbrev pub IsLeavingRefused : (runs : Word → Bool) → Group → (remove : Bool) → Word → End → Type 0
IsLeavingRefused runs g remove name end =
    RefusedFor (λ r. leaving_refusal runs g.config g.good remove name ≡ Some r) end
    ⊎ ((p : Plex) × MayLeave runs g remove name p × AreEditsRefused g.config (leaving_edits remove p) end)
