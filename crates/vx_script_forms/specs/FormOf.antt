-- The form that the values of a line say, by the kind of the line.
use Rattle.std.specs.Prelude.{ℕ, true, false, Option, Some, None, option_and_then, List, [], ◌∷◌}
use Rattle.vx_script_forms.specs.Values.{maybe_named, maybe_numbered, small, byte, maybe_small}
use Rattle.vx_script_forms.specs.declared.act.Act.TheVariants as act
use Rattle.vx_script_forms.specs.declared.call.Call.TheVariants as call
use Rattle.vx_script_forms.specs.declared.form.Form.{Form}
use Rattle.vx_script_forms.specs.declared.form.Form.TheVariants as form
use Rattle.vx_script_forms.specs.declared.form.MakeAttrs.{MakeAttrs}
use Rattle.vx_script_forms.specs.declared.form.WordLayout.{WordLayout}
use Rattle.vx_script_forms.specs.declared.form.WordLayout.TheVariants as layout
use Rattle.vx_script_forms.specs.declared.form.WordPolicy.TheVariants as policy
use Rattle.vx_script_forms.specs.declared.kind.Kind.{Kind}
use Rattle.vx_script_forms.specs.declared.kind.Kind.TheVariants as kind
use Rattle.vx_script_words.specs.declared.value.Value.{Value}
use Rattle.vx_script_words.specs.declared.value.Value.TheVariants.{Nothing, Word, Named, Number, Pair, BreakOff, Names, Pairs, Blocks}

-- the layout of a line that is not striped
abbrev pub concat_of : Value → Option (Option WordLayout)
concat_of Nothing = Some None
concat_of Word = Some (Some layout.Concat)
concat_of v = None

-- the attributes, of which these three values say the last
abbrev pub with_mirrors : Option WordLayout → Option ℕ → Option ℕ → Value → Value → Value → Option MakeAttrs
with_mirrors layout ncol unit mirrors size logs = option_and_then (λ nmirror. option_and_then (λ region. option_and_then (λ ndcomirror. Some (record { layout = layout; ncol = ncol; unit = unit; nmirror = nmirror; region = region; ndcomirror = ndcomirror })) (maybe_small logs)) (maybe_numbered size)) (maybe_small mirrors)

-- the attributes of a line that is not striped
abbrev pub concat_attrs : Value → Value → Value → Value → Option MakeAttrs
concat_attrs words mirrors size logs = option_and_then (λ layout. with_mirrors layout None None mirrors size logs) (concat_of words)

-- the attributes of a striped line
abbrev pub stripe_attrs : Value → Value → Value → Value → Value → Option MakeAttrs
stripe_attrs columns length mirrors size logs = option_and_then (λ ncol. option_and_then (λ unit. with_mirrors (Some layout.Stripe) ncol unit mirrors size logs) (maybe_numbered length)) (maybe_small columns)

-- a volume that is made with the attributes, where there are any
abbrev pub assist_make : List ℕ → ℕ → Option MakeAttrs → List (List ℕ) → Option Form
assist_make vol length attrs disks = option_and_then (λ attrs. Some (form.AssistMake vol length attrs disks)) attrs

-- the form of a line: the value of its first word, that of its group, and the others; nothing where one is of another sort
abbrev pub form_of : Kind → List Value → Option Form
form_of kind.MkImage (_ ∷ _ ∷ Named device ∷ Number length ∷ _) = Some (form.MkImage device length)
form_of kind.Bare (_ ∷ _ ∷ Named vol ∷ Named device ∷ _) = Some (form.Bare vol device)
form_of kind.DgInit (_ ∷ _ ∷ _ ∷ Named dg ∷ Pairs disks ∷ _) = Some (form.DgInit dg disks)
form_of kind.DgAddDisk (_ ∷ _ ∷ _ ∷ Named dg ∷ _ ∷ Pair disk ∷ _) = Some (form.DgAddDisk dg disk)
form_of kind.DgImport (_ ∷ _ ∷ _ ∷ Named dg ∷ _) = Some (form.DgImport dg)
form_of kind.DgDeport (_ ∷ _ ∷ _ ∷ Named dg ∷ _) = Some (form.DgDeport dg)
form_of kind.DiskUnsetup (_ ∷ _ ∷ Named device ∷ _) = Some (form.DiskUnsetup device)
form_of kind.PrintM (_ ∷ _ ∷ _ ∷ word ∷ _) = option_and_then (λ vol. Some (form.PrintM vol)) (maybe_named word)
form_of kind.PrintHt (_ ∷ _ ∷ _ ∷ word ∷ _) = option_and_then (λ vol. Some (form.PrintHt vol)) (maybe_named word)
form_of kind.MakeConcat (_ ∷ _ ∷ _ ∷ Named vol ∷ Number length ∷ words ∷ mirrors ∷ size ∷ logs ∷ Names disks ∷ _) = assist_make vol length (concat_attrs words mirrors size logs) disks
form_of kind.MakeStripe (_ ∷ _ ∷ _ ∷ Named vol ∷ Number length ∷ _ ∷ columns ∷ unit ∷ mirrors ∷ size ∷ logs ∷ Names disks ∷ _) = assist_make vol length (stripe_attrs columns unit mirrors size logs) disks
form_of kind.Mirror (_ ∷ _ ∷ _ ∷ Named vol ∷ Names disks ∷ _) = Some (form.Mirror vol disks)
form_of kind.RemoveVolume (_ ∷ _ ∷ _ ∷ _ ∷ Named vol ∷ _) = Some (form.RemoveVolume vol)
form_of kind.Start (_ ∷ _ ∷ _ ∷ Named vol ∷ _) = Some (form.Start vol)
form_of kind.Stop (_ ∷ _ ∷ _ ∷ Named vol ∷ _) = Some (form.Stop vol)
form_of kind.RdpolRound (_ ∷ _ ∷ _ ∷ _ ∷ Named vol ∷ _) = Some (form.Rdpol vol policy.Round)
form_of kind.RdpolSelect (_ ∷ _ ∷ _ ∷ _ ∷ Named vol ∷ _) = Some (form.Rdpol vol policy.Select)
form_of kind.RdpolPrefer (_ ∷ _ ∷ _ ∷ _ ∷ Named vol ∷ Named plex ∷ _) = Some (form.Rdpol vol (policy.Prefer plex))
form_of kind.PlexDis (_ ∷ _ ∷ _ ∷ Named plex ∷ _) = Some (form.PlexDis plex false)
form_of kind.PlexDisRm (_ ∷ _ ∷ _ ∷ _ ∷ _ ∷ Named plex ∷ _) = Some (form.PlexDis plex true)
form_of kind.Prepare (_ ∷ _ ∷ _ ∷ Named vol ∷ logs ∷ size ∷ _) = option_and_then (λ ndcomirs. option_and_then (λ region. Some (form.Prepare vol ndcomirs region)) (maybe_numbered size)) (maybe_numbered logs)
form_of kind.Unprepare (_ ∷ _ ∷ _ ∷ Named vol ∷ _) = Some (form.Unprepare vol)
form_of kind.AddMir (_ ∷ _ ∷ _ ∷ Named vol ∷ Names disks ∷ _) = Some (form.AddMir vol disks)
form_of kind.Dis (_ ∷ _ ∷ _ ∷ Named snap ∷ _) = Some (form.Dis snap)
form_of kind.Split (_ ∷ _ ∷ _ ∷ Named snap ∷ _) = Some (form.Split snap)
form_of kind.PrintSnaps (_ ∷ _ ∷ _ ∷ word ∷ _) = option_and_then (λ vol. Some (form.PrintSnaps vol)) (maybe_named word)
form_of kind.Recover (_ ∷ _ ∷ _ ∷ word ∷ _) = option_and_then (λ vol. Some (form.Recover vol)) (maybe_named word)
form_of kind.SnapMake (_ ∷ _ ∷ _ ∷ BreakOff vol snap plex ∷ _) = Some (form.Acting (act.SnapMake vol snap plex))
form_of kind.Reattach (_ ∷ _ ∷ _ ∷ Named snap ∷ Named vol ∷ _) = Some (form.Acting (act.Reattach snap vol))
form_of kind.Restore (_ ∷ _ ∷ _ ∷ Named vol ∷ Named snap ∷ _) = Some (form.Acting (act.Restore vol snap))
form_of kind.Snapback (_ ∷ _ ∷ _ ∷ Named snap ∷ _) = Some (form.Acting (act.Snapback snap false))
form_of kind.SnapbackFromReplica (_ ∷ _ ∷ _ ∷ _ ∷ _ ∷ Named snap ∷ _) = Some (form.Acting (act.Snapback snap true))
form_of kind.PlexDet (_ ∷ _ ∷ _ ∷ Named plex ∷ _) = Some (form.Acting (act.PlexDet plex))
form_of kind.PlexAtt (_ ∷ _ ∷ _ ∷ Named vol ∷ Named plex ∷ _) = Some (form.Acting (act.PlexAtt vol plex))
form_of kind.Read (_ ∷ _ ∷ Named vol ∷ Number start ∷ Number count ∷ _) = Some (form.Calling (call.Read vol start count))
form_of kind.Fill (_ ∷ _ ∷ Named vol ∷ Number start ∷ Number count ∷ _ ∷ filling ∷ _) = option_and_then (λ byte. Some (form.Calling (call.Fill vol start count byte))) (byte filling)
form_of kind.Data (_ ∷ _ ∷ Named vol ∷ Number start ∷ _ ∷ Blocks blocks ∷ _) = Some (form.Calling (call.Data vol start blocks))
form_of kind.Sessions (_ ∷ _ ∷ count ∷ _) = option_and_then (λ sessions. Some (form.Sessions (record { sessions = sessions; lines = [] }))) (small count)
form_of kind.VxMake values = Some (form.VxMake [])
form_of k values = None
