-- The forms of command lines, word by word.
use Rattle.std.specs.Prelude.{List, [], ◌∷◌}
use Rattle.std.specs.List.{flat_map}
use Rattle.vx_script_forms.specs.declared.head.Head.{Head}
use Rattle.vx_script_forms.specs.declared.head.Head.TheVariants as head
use Rattle.vx_script_forms.specs.declared.head.TheConstants as heads
use Rattle.vx_script_forms.specs.declared.kind.Kind.{Kind}
use Rattle.vx_script_forms.specs.declared.kind.Kind.TheVariants as kind
use Rattle.vx_script_forms.specs.declared.table.TheConstants as table
use Rattle.vx_script_words.specs.declared.class.Item.{Item}
use Rattle.vx_script_words.specs.declared.key.Key.{Key}
use Rattle.vx_script_words.specs.declared.key.Key.TheVariants as key

abbrev pub items_of : Kind → List Item
items_of kind.MkImage = table.MK_IMAGE
items_of kind.Bare = table.BARE
items_of kind.DgInit = table.DG_INIT
items_of kind.DgAddDisk = table.DG_ADD_DISK
items_of kind.DgImport = table.DG_IMPORT
items_of kind.DgDeport = table.DG_DEPORT
items_of kind.DiskUnsetup = table.DISK_UNSETUP
items_of kind.VxMake = table.VX_MAKE
items_of kind.PrintM = table.PRINT_M
items_of kind.PrintHt = table.PRINT_HT
items_of kind.MakeConcat = table.MAKE_CONCAT
items_of kind.MakeStripe = table.MAKE_STRIPE
items_of kind.Mirror = table.MIRROR
items_of kind.RemoveVolume = table.REMOVE_VOLUME
items_of kind.Start = table.START
items_of kind.Stop = table.STOP
items_of kind.RdpolRound = table.RDPOL_ROUND
items_of kind.RdpolSelect = table.RDPOL_SELECT
items_of kind.RdpolPrefer = table.RDPOL_PREFER
items_of kind.PlexDis = table.PLEX_DIS
items_of kind.PlexDisRm = table.PLEX_DIS_RM
items_of kind.Prepare = table.PREPARE
items_of kind.Unprepare = table.UNPREPARE
items_of kind.AddMir = table.ADD_MIR
items_of kind.Dis = table.DIS
items_of kind.Split = table.SPLIT
items_of kind.PrintSnaps = table.PRINT_SNAPS
items_of kind.Recover = table.RECOVER
items_of kind.SnapMake = table.SNAP_MAKE
items_of kind.Reattach = table.REATTACH
items_of kind.Restore = table.RESTORE
items_of kind.Snapback = table.SNAPBACK
items_of kind.SnapbackFromReplica = table.SNAPBACK_FROM_REPLICA
items_of kind.PlexDet = table.PLEX_DET
items_of kind.PlexAtt = table.PLEX_ATT
items_of kind.Read = table.READ
items_of kind.Fill = table.FILL
items_of kind.Data = table.DATA
items_of kind.Sessions = table.SESSIONS

-- the word that the lines of a head begin with
abbrev pub head_key : Head → Key
head_key head.Read = key.Read
head_key head.Write = key.Write
head_key head.Sessions = key.Sessions
head_key head.MkImage = key.MkImage
head_key head.Bare = key.Bare
head_key head.Dg = key.VxDg
head_key head.DiskUnsetup = key.VxDiskUnsetup
head_key head.Make = key.VxMake
head_key head.Print = key.VxPrint
head_key head.Assist = key.VxAssist
head_key head.Vol = key.VxVol
head_key head.Plex = key.VxPlex
head_key head.Snap = key.VxSnap
head_key head.Recover = key.VxRecover
head_key head.SnapAct = key.VxSnap
head_key head.AssistAct = key.VxAssist
head_key head.PlexAct = key.VxPlex

-- the forms of such lines
abbrev pub kinds_of : Head → List Kind
kinds_of head.Read = kind.Read ∷ []
kinds_of head.Write = kind.Fill ∷ kind.Data ∷ []
kinds_of head.Sessions = kind.Sessions ∷ []
kinds_of head.MkImage = kind.MkImage ∷ []
kinds_of head.Bare = kind.Bare ∷ []
kinds_of head.Dg = kind.DgInit ∷ kind.DgAddDisk ∷ kind.DgImport ∷ kind.DgDeport ∷ []
kinds_of head.DiskUnsetup = kind.DiskUnsetup ∷ []
kinds_of head.Make = kind.VxMake ∷ []
kinds_of head.Print = kind.PrintM ∷ kind.PrintHt ∷ []
kinds_of head.Assist = kind.MakeConcat ∷ kind.MakeStripe ∷ kind.Mirror ∷ kind.RemoveVolume ∷ kind.Snapback ∷ kind.SnapbackFromReplica ∷ []
kinds_of head.Vol = kind.Start ∷ kind.Stop ∷ kind.RdpolRound ∷ kind.RdpolSelect ∷ kind.RdpolPrefer ∷ []
kinds_of head.Plex = kind.PlexDis ∷ kind.PlexDisRm ∷ kind.PlexDet ∷ kind.PlexAtt ∷ []
kinds_of head.Snap = kind.Prepare ∷ kind.Unprepare ∷ kind.AddMir ∷ kind.Dis ∷ kind.Split ∷ kind.PrintSnaps ∷ kind.SnapMake ∷ kind.Reattach ∷ kind.Restore ∷ []
kinds_of head.Recover = kind.Recover ∷ []
kinds_of head.SnapAct = kind.SnapMake ∷ kind.Reattach ∷ kind.Restore ∷ []
kinds_of head.AssistAct = kind.Snapback ∷ kind.SnapbackFromReplica ∷ []
kinds_of head.PlexAct = kind.PlexDet ∷ kind.PlexAtt ∷ []

-- the forms of commands, of calls, and of acts
abbrev pub commands : List Kind
commands = flat_map kinds_of heads.COMMANDS

abbrev pub calls : List Kind
calls = flat_map kinds_of heads.CALLS

abbrev pub acts : List Kind
acts = flat_map kinds_of heads.ACTS
