-- The plan of each command: its stages in order, and what it shows at the end.
use Rattle.std.specs.Prelude.{ℕ, nat_lt, min, Bool, if◌then◌else◌, Option, Some, None, List, [], ◌∷◌}
use Rattle.vx_base.specs.Named.{Word}
use Rattle.vx_config_parts.specs.declared.vol.PolicyName.TheVariants as policy
use Rattle.vx_script_words.specs.declared.value.DiskAt.{DiskAt}
use Rattle.vx_script_forms.specs.declared.act.Act.{Act}
use Rattle.vx_script_forms.specs.declared.act.Act.TheVariants as act
use Rattle.vx_script_forms.specs.declared.form.Form.{Form}
use Rattle.vx_script_forms.specs.declared.form.Form.TheVariants as form
use Rattle.vx_script_forms.specs.declared.form.MakeAttrs.{MakeAttrs}
use Rattle.vx_script_forms.specs.declared.form.WordLayout.{WordLayout}
use Rattle.vx_script_forms.specs.declared.form.WordLayout.TheVariants as layout
use Rattle.vx_script_forms.specs.declared.form.WordPolicy.{WordPolicy}
use Rattle.vx_script_forms.specs.declared.form.WordPolicy.TheVariants as words
use Rattle.vx_plans.specs.declared.stages.Finish.{Finish}
use Rattle.vx_plans.specs.declared.stages.Finish.TheVariants.{Hierarchy, Nothing, Records}
use Rattle.vx_plans.specs.declared.stages.Plan.{Plan}
use Rattle.vx_new_volumes.specs.declared.logs.NewLogs.{NewLogs}
use Rattle.vx_new_volumes.specs.declared.mirror.NewPlex.{NewPlex}
use Rattle.vx_new_volumes.specs.declared.volume.NewVolume.{NewVolume}
use Rattle.vx_stages.specs.declared.stage.Change.TheVariants as changes
use Rattle.vx_stages.specs.declared.stage.Source.TheVariants as source
use Rattle.vx_stages.specs.declared.stage.Stage.{Stage}
use Rattle.vx_stages.specs.declared.stage.Stage.TheVariants as stage
use Rattle.vx_stages.specs.declared.test.Test.TheVariants as tests

-- the stages of a command, and what it shows
abbrev pub ending : List Stage → Finish → Option Plan
ending stages finish = Some (record { stages = stages; finish = finish })

-- the stages of a command that shows nothing
abbrev pub doing : List Stage → Option Plan
doing stages = ending stages Nothing

-- `bare VOL DEV`
abbrev pub plan_bare : Word → Word → List Stage
plan_bare vol device =
    stage.Take device ∷ stage.LookBlank device ∷ stage.Gate (tests.Sized device) ∷ stage.StartBare vol device ∷ []

-- `vxdg init DG (DM=DEV)+`
abbrev pub plan_init : Word → List Stage
plan_init dg =
    stage.TakeDisks ∷ stage.LookDisks ∷ stage.Gate tests.NoGroup ∷ stage.Gate (tests.GroupLimits dg) ∷ stage.Search dg
    ∷ stage.Gate (tests.GroupRecords dg) ∷ stage.Create dg ∷ []

-- `vxdg -g DG adddisk DM=DEV`
abbrev pub plan_add : Word → List Stage
plan_add dg =
    stage.TakeDisks ∷ stage.Gate (tests.GroupIs (Some dg)) ∷ stage.LookDisks ∷ stage.Gate tests.JoinLimits ∷ stage.Search dg ∷ stage.Join ∷ []

-- `vxdg deport DG`
abbrev pub plan_deport : Word → List Stage
plan_deport dg = stage.Gate (tests.GroupIs (Some dg)) ∷ stage.Gate tests.NoneStarted ∷ stage.LetGo ∷ []

-- `vxdiskunsetup DEV`
abbrev pub plan_unsetup : Word → List Stage
plan_unsetup device = stage.Take device ∷ stage.LookHeaded device ∷ stage.Wipe device ∷ []

-- `vxvol rdpol`: the plex that is preferred is one of the volume
abbrev pub plan_rdpol : Option Word → Word → WordPolicy → List Stage
plan_rdpol dg vol words.Round = stage.Gate (tests.GroupIs dg) ∷ stage.Gate (tests.HasVolume vol) ∷ stage.Change (changes.Policy vol policy.Round) ∷ []
plan_rdpol dg vol words.Select = stage.Gate (tests.GroupIs dg) ∷ stage.Gate (tests.HasVolume vol) ∷ stage.Change (changes.Policy vol policy.Select) ∷ []
plan_rdpol dg vol (words.Prefer plex) =
    stage.Gate (tests.GroupIs dg) ∷ stage.Gate (tests.HasVolume vol) ∷ stage.Gate (tests.HasPlex vol plex) ∷ stage.Change (changes.Policy vol (policy.Prefer plex)) ∷ []

-- `vxmake -d`
abbrev pub plan_make : Option Word → List ℕ → List Stage
plan_make dg text = stage.Gate (tests.GroupIs dg) ∷ stage.Make (source.Text text) ∷ []

-- ---- `vxassist make VOL LENGTH ATTR* DM*`

-- the number of an attribute, or what it is where it is left out
abbrev pub or_else : Option ℕ → ℕ → ℕ
or_else None other = other
or_else (Some n) other = n

-- the columns of each plex
abbrev pub columns_of : Option WordLayout → Option ℕ → ℕ
columns_of None ncol = 1
columns_of (Some layout.Concat) ncol = 1
columns_of (Some layout.Stripe) ncol = or_else ncol 2

-- a volume of several plexes has two logs, unless it is said how many
abbrev pub logs_of : ℕ → Option ℕ → ℕ
logs_of mirrors logs = or_else logs (if nat_lt 1 mirrors then 2 else 0)

-- what is asked for
abbrev pub new_volume : Word → ℕ → MakeAttrs → List Word → NewVolume
new_volume vol length attrs disks = record {
  vol = vol;
  request = record {
    length = length;
    region = or_else attrs.region 128;
    ncol = columns_of attrs.layout attrs.ncol;
    unit = or_else attrs.unit 128;
    mirrors = or_else attrs.nmirror 1;
    logs = logs_of (or_else attrs.nmirror 1) attrs.ndcomirror;
    disks = disks;
    avoid = [];
  };
}

-- the new volume is planned and its records are added; by then no volume of the name is started, and the start ends the command
abbrev pub plan_new : Option Word → NewVolume → List Stage
plan_new dg n =
    stage.Gate (tests.GroupIs dg) ∷ stage.Make (source.Volume n) ∷ stage.Gate (tests.Stopped n.vol) ∷ stage.Start n.vol ∷ []

-- ---- other commands

-- `vxassist mirror VOL DM*`: the mirror ends the command
abbrev pub plan_mirror : Option Word → NewPlex → List Stage
plan_mirror dg new = stage.Gate (tests.GroupIs dg) ∷ stage.Mirror new ∷ []

-- `vxsnap prepare VOL [ndcomirs=N] [regionsize=LENGTH]`: one log where it is not said how many; more than can be counted are too many
abbrev pub new_logs : Word → Option ℕ → Option ℕ → NewLogs
new_logs vol count region = record { vol = vol; count = min (or_else count 1) 4294967295; region = region }

abbrev pub plan_prepare : Option Word → NewLogs → List Stage
plan_prepare dg logs = stage.Gate (tests.GroupIs dg) ∷ stage.Prepare logs ∷ []

-- `vxsnap unprepare VOL`
abbrev pub plan_unprepare : Option Word → Word → List Stage
plan_unprepare dg vol = stage.Gate (tests.GroupIs dg) ∷ stage.Unprepare vol ∷ []

-- `vxplex det PLEX`
abbrev pub plan_detach : Option Word → Word → List Stage
plan_detach dg plex = stage.Gate (tests.GroupIs dg) ∷ stage.Detach plex ∷ []

-- `vxplex att VOL PLEX`: it ends the command
abbrev pub plan_attach : Option Word → (vol plex : Word) → List Stage
plan_attach dg vol plex = stage.Gate (tests.GroupIs dg) ∷ stage.Attach vol plex ∷ []

-- `vxplex [-o rm] dis PLEX`
abbrev pub plan_dissociate : Option Word → Word → (remove : Bool) → List Stage
plan_dissociate dg plex remove = stage.Gate (tests.GroupIs dg) ∷ stage.Dissociate plex remove ∷ []

-- `vxassist remove volume VOL`
abbrev pub plan_remove : Option Word → Word → List Stage
plan_remove dg vol =
    stage.Gate (tests.GroupIs dg) ∷ stage.Gate (tests.HasVolume vol) ∷ stage.Gate (tests.Stopped vol) ∷ stage.Gate (tests.Unrelated vol)
    ∷ stage.Change (changes.Remove vol) ∷ []

-- `vxvol start VOL`: a volume that runs is refused by its state; the start ends the command
abbrev pub plan_start : Option Word → Word → List Stage
plan_start dg vol =
    stage.Gate (tests.GroupIs dg) ∷ stage.Gate (tests.HasVolume vol) ∷ stage.Gate (tests.Stopped vol) ∷ stage.Start vol ∷ []

-- `vxvol stop VOL`
abbrev pub plan_stop : Option Word → Word → List Stage
plan_stop dg vol = stage.Gate (tests.GroupIs dg) ∷ stage.Gate (tests.HasVolume vol) ∷ stage.Stop vol ∷ []

-- `vxprint -m [VOL]` and `vxprint -ht [VOL]`
abbrev pub plan_print : Option Word → Option Word → List Stage
plan_print dg None = stage.Gate (tests.GroupIs dg) ∷ []
plan_print dg (Some vol) = stage.Gate (tests.GroupIs dg) ∷ stage.Gate (tests.HasVolume vol) ∷ []

-- the plan of an act, where it is built
abbrev pub plan_of_act : Option Word → Act → Option Plan
plan_of_act dg (act.PlexDet plex) = doing (plan_detach dg plex)
plan_of_act dg (act.PlexAtt vol plex) = doing (plan_attach dg vol plex)
plan_of_act dg other = None

-- the plan of a form, where it is built as one; the word is that of `-g`
unfoldable pub plan_of : Option Word → Form → Option Plan
plan_of dg (form.MkImage device length) = doing (stage.MakeImage device length ∷ [])
plan_of dg (form.Bare vol device) = doing (plan_bare vol device)
plan_of dg (form.DgInit name disks) = doing (plan_init name)
plan_of dg (form.DgAddDisk name disk) = doing (plan_add name)
plan_of dg (form.DgImport name) = doing (stage.Import name ∷ [])
plan_of dg (form.DgDeport name) = doing (plan_deport name)
plan_of dg (form.DiskUnsetup device) = doing (plan_unsetup device)
plan_of dg (form.PrintM vol) = ending (plan_print dg vol) (Records vol)
plan_of dg (form.PrintHt vol) = ending (plan_print dg vol) (Hierarchy vol)
plan_of dg (form.VxMake text) = doing (plan_make dg text)
plan_of dg (form.AssistMake vol length attrs disks) = doing (plan_new dg (new_volume vol length attrs disks))
plan_of dg (form.Rdpol vol words) = doing (plan_rdpol dg vol words)
plan_of dg (form.RemoveVolume vol) = doing (plan_remove dg vol)
plan_of dg (form.PlexDis plex rm) = doing (plan_dissociate dg plex rm)
plan_of dg (form.Prepare vol ndcomirs region) = doing (plan_prepare dg (new_logs vol ndcomirs region))
plan_of dg (form.Unprepare vol) = doing (plan_unprepare dg vol)
plan_of dg (form.Mirror vol disks) = doing (plan_mirror dg (record { vol = vol; disks = disks }))
plan_of dg (form.Start vol) = doing (plan_start dg vol)
plan_of dg (form.Stop vol) = doing (plan_stop dg vol)
plan_of dg (form.Acting act) = plan_of_act dg act
plan_of dg other = None

-- the disks that a form names
abbrev pub disks_of : Form → List DiskAt
disks_of (form.DgInit name disks) = disks
disks_of (form.DgAddDisk name disk) = disk ∷ []
disks_of other = []
