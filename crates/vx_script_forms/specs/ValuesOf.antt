-- The kind of a form, and the values of its line: what is read with them is the form again.
use Rattle.std.specs.Prelude.{ℕ, true, false, Option, Some, None, List, [], ◌∷◌}
use Rattle.vx_script_forms.specs.declared.act.Act.{Act}
use Rattle.vx_script_forms.specs.declared.act.Act.TheVariants as act
use Rattle.vx_script_forms.specs.declared.call.Call.{Call}
use Rattle.vx_script_forms.specs.declared.call.Call.TheVariants as call
use Rattle.vx_script_forms.specs.declared.form.Form.{Form}
use Rattle.vx_script_forms.specs.declared.form.Form.TheVariants as form
use Rattle.vx_script_forms.specs.declared.form.MakeAttrs.{MakeAttrs}
use Rattle.vx_script_forms.specs.declared.form.WordLayout.{WordLayout}
use Rattle.vx_script_forms.specs.declared.form.WordLayout.TheVariants as layout
use Rattle.vx_script_forms.specs.declared.form.WordPolicy.{WordPolicy}
use Rattle.vx_script_forms.specs.declared.form.WordPolicy.TheVariants as policy
use Rattle.vx_script_forms.specs.declared.kind.Kind.{Kind}
use Rattle.vx_script_forms.specs.declared.kind.Kind.TheVariants as kind
use Rattle.vx_script_words.specs.declared.value.Value.{Value}
use Rattle.vx_script_words.specs.declared.value.Value.TheVariants.{Nothing, Word, Named, Number, Pair, BreakOff, Names, Pairs, Blocks}

abbrev pub maybe_value : Option (List ℕ) → Value
maybe_value None = Nothing
maybe_value (Some name) = Named name

abbrev pub count_value : Option ℕ → Value
count_value None = Nothing
count_value (Some n) = Number n

abbrev pub act_kind : Act → Kind
act_kind (act.SnapMake vol snap plex) = kind.SnapMake
act_kind (act.Reattach snap vol) = kind.Reattach
act_kind (act.Restore vol snap) = kind.Restore
act_kind (act.Snapback snap false) = kind.Snapback
act_kind (act.Snapback snap true) = kind.SnapbackFromReplica
act_kind (act.PlexDet plex) = kind.PlexDet
act_kind (act.PlexAtt vol plex) = kind.PlexAtt

abbrev pub call_kind : Call → Kind
call_kind (call.Read vol start count) = kind.Read
call_kind (call.Fill vol start count byte) = kind.Fill
call_kind (call.Data vol start blocks) = kind.Data

-- columns and a stripe unit are words behind `layout=stripe` alone
abbrev pub make_kind : Option WordLayout → Option ℕ → Option ℕ → Kind
make_kind (Some layout.Stripe) ncol unit = kind.MakeStripe
make_kind words None None = kind.MakeConcat
make_kind words ncol unit = kind.MakeStripe

abbrev pub policy_kind : WordPolicy → Kind
policy_kind policy.Round = kind.RdpolRound
policy_kind policy.Select = kind.RdpolSelect
policy_kind (policy.Prefer plex) = kind.RdpolPrefer

abbrev pub kind_of : Form → Kind
kind_of (form.MkImage device length) = kind.MkImage
kind_of (form.Bare vol device) = kind.Bare
kind_of (form.DgInit dg disks) = kind.DgInit
kind_of (form.DgAddDisk dg disk) = kind.DgAddDisk
kind_of (form.DgImport dg) = kind.DgImport
kind_of (form.DgDeport dg) = kind.DgDeport
kind_of (form.DiskUnsetup device) = kind.DiskUnsetup
kind_of (form.VxMake text) = kind.VxMake
kind_of (form.PrintM vol) = kind.PrintM
kind_of (form.PrintHt vol) = kind.PrintHt
kind_of (form.AssistMake vol length attrs disks) = make_kind attrs.layout attrs.ncol attrs.unit
kind_of (form.Mirror vol disks) = kind.Mirror
kind_of (form.RemoveVolume vol) = kind.RemoveVolume
kind_of (form.Start vol) = kind.Start
kind_of (form.Stop vol) = kind.Stop
kind_of (form.Rdpol vol p) = policy_kind p
kind_of (form.PlexDis plex false) = kind.PlexDis
kind_of (form.PlexDis plex true) = kind.PlexDisRm
kind_of (form.Prepare vol ndcomirs region) = kind.Prepare
kind_of (form.Unprepare vol) = kind.Unprepare
kind_of (form.AddMir vol disks) = kind.AddMir
kind_of (form.Dis snap) = kind.Dis
kind_of (form.Split snap) = kind.Split
kind_of (form.PrintSnaps vol) = kind.PrintSnaps
kind_of (form.Recover vol) = kind.Recover
kind_of (form.Acting a) = act_kind a
kind_of (form.Calling c) = call_kind c
kind_of (form.Sessions block) = kind.Sessions

abbrev pub act_values : Option (List ℕ) → Act → List Value
act_values g (act.SnapMake vol snap plex) = Word ∷ maybe_value g ∷ Word ∷ BreakOff vol snap plex ∷ []
act_values g (act.Reattach snap vol) = Word ∷ maybe_value g ∷ Word ∷ Named snap ∷ Named vol ∷ []
act_values g (act.Restore vol snap) = Word ∷ maybe_value g ∷ Word ∷ Named vol ∷ Named snap ∷ []
act_values g (act.Snapback snap false) = Word ∷ maybe_value g ∷ Word ∷ Named snap ∷ []
act_values g (act.Snapback snap true) = Word ∷ maybe_value g ∷ Word ∷ Word ∷ Word ∷ Named snap ∷ []
act_values g (act.PlexDet plex) = Word ∷ maybe_value g ∷ Word ∷ Named plex ∷ []
act_values g (act.PlexAtt vol plex) = Word ∷ maybe_value g ∷ Word ∷ Named vol ∷ Named plex ∷ []

abbrev pub call_values : Option (List ℕ) → Call → List Value
call_values g (call.Read vol start count) = Word ∷ maybe_value g ∷ Named vol ∷ Number start ∷ Number count ∷ []
call_values g (call.Fill vol start count byte) = Word ∷ maybe_value g ∷ Named vol ∷ Number start ∷ Number count ∷ Word ∷ Number byte ∷ []
call_values g (call.Data vol start blocks) = Word ∷ maybe_value g ∷ Named vol ∷ Number start ∷ Word ∷ Blocks blocks ∷ []

abbrev pub stripe_value : Option WordLayout → Value
stripe_value (Some layout.Stripe) = Word
stripe_value words = Nothing

-- the layout, and what may stand behind it
abbrev pub layout_values : Option WordLayout → Option ℕ → Option ℕ → List Value → List Value
layout_values None None None more = Nothing ∷ more
layout_values (Some layout.Concat) None None more = Word ∷ more
layout_values words ncol unit more = stripe_value words ∷ count_value ncol ∷ count_value unit ∷ more

abbrev pub attr_values : MakeAttrs → List (List ℕ) → List Value
attr_values a disks = layout_values a.layout a.ncol a.unit (count_value a.nmirror ∷ count_value a.region ∷ count_value a.ndcomirror ∷ Names disks ∷ [])

abbrev pub policy_values : Option (List ℕ) → List ℕ → WordPolicy → List Value
policy_values g vol policy.Round = Word ∷ maybe_value g ∷ Word ∷ Word ∷ Named vol ∷ []
policy_values g vol policy.Select = Word ∷ maybe_value g ∷ Word ∷ Word ∷ Named vol ∷ []
policy_values g vol (policy.Prefer plex) = Word ∷ maybe_value g ∷ Word ∷ Word ∷ Named vol ∷ Named plex ∷ []

-- the values of the first line, with those of the group
abbrev pub values_of : Option (List ℕ) → Form → List Value
values_of g (form.MkImage device length) = Word ∷ maybe_value g ∷ Named device ∷ Number length ∷ []
values_of g (form.Bare vol device) = Word ∷ maybe_value g ∷ Named vol ∷ Named device ∷ []
values_of g (form.DgInit dg disks) = Word ∷ maybe_value g ∷ Word ∷ Named dg ∷ Pairs disks ∷ []
values_of g (form.DgAddDisk dg disk) = Word ∷ maybe_value g ∷ Word ∷ Named dg ∷ Word ∷ Pair disk ∷ []
values_of g (form.DgImport dg) = Word ∷ maybe_value g ∷ Word ∷ Named dg ∷ []
values_of g (form.DgDeport dg) = Word ∷ maybe_value g ∷ Word ∷ Named dg ∷ []
values_of g (form.DiskUnsetup device) = Word ∷ maybe_value g ∷ Named device ∷ []
values_of g (form.VxMake text) = Word ∷ maybe_value g ∷ Word ∷ []
values_of g (form.PrintM vol) = Word ∷ maybe_value g ∷ Word ∷ maybe_value vol ∷ []
values_of g (form.PrintHt vol) = Word ∷ maybe_value g ∷ Word ∷ maybe_value vol ∷ []
values_of g (form.AssistMake vol length attrs disks) = Word ∷ maybe_value g ∷ Word ∷ Named vol ∷ Number length ∷ attr_values attrs disks
values_of g (form.Mirror vol disks) = Word ∷ maybe_value g ∷ Word ∷ Named vol ∷ Names disks ∷ []
values_of g (form.RemoveVolume vol) = Word ∷ maybe_value g ∷ Word ∷ Word ∷ Named vol ∷ []
values_of g (form.Start vol) = Word ∷ maybe_value g ∷ Word ∷ Named vol ∷ []
values_of g (form.Stop vol) = Word ∷ maybe_value g ∷ Word ∷ Named vol ∷ []
values_of g (form.Rdpol vol p) = policy_values g vol p
values_of g (form.PlexDis plex false) = Word ∷ maybe_value g ∷ Word ∷ Named plex ∷ []
values_of g (form.PlexDis plex true) = Word ∷ maybe_value g ∷ Word ∷ Word ∷ Word ∷ Named plex ∷ []
values_of g (form.Prepare vol ndcomirs region) = Word ∷ maybe_value g ∷ Word ∷ Named vol ∷ count_value ndcomirs ∷ count_value region ∷ []
values_of g (form.Unprepare vol) = Word ∷ maybe_value g ∷ Word ∷ Named vol ∷ []
values_of g (form.AddMir vol disks) = Word ∷ maybe_value g ∷ Word ∷ Named vol ∷ Names disks ∷ []
values_of g (form.Dis snap) = Word ∷ maybe_value g ∷ Word ∷ Named snap ∷ []
values_of g (form.Split snap) = Word ∷ maybe_value g ∷ Word ∷ Named snap ∷ []
values_of g (form.PrintSnaps vol) = Word ∷ maybe_value g ∷ Word ∷ maybe_value vol ∷ []
values_of g (form.Recover vol) = Word ∷ maybe_value g ∷ Word ∷ maybe_value vol ∷ []
values_of g (form.Acting a) = act_values g a
values_of g (form.Calling c) = call_values g c
values_of g (form.Sessions block) = Word ∷ maybe_value g ∷ Number block.sessions ∷ []

-- what the first line alone says of a form
abbrev pub opening : Form → Form
opening (form.VxMake text) = form.VxMake []
opening (form.Sessions block) = form.Sessions (record { sessions = block.sessions; lines = [] })
opening f = f
