-- The words of record text.
use Rattle.std.specs.Prelude.{ℕ, List, codes}
use Rattle.vx_record.specs.declared.kind.Kind.{Kind}
use Rattle.vx_record.specs.declared.kind.Kind.TheVariants as kinds
use Rattle.vx_record.specs.declared.label.Label.{Label}
use Rattle.vx_record.specs.declared.label.Label.TheVariants as labels

abbrev pub kind_word : Kind → List ℕ
kind_word kinds.Dg = codes "dg"
kind_word kinds.Dm = codes "dm"
kind_word kinds.Sd = codes "sd"
kind_word kinds.Plex = codes "plex"
kind_word kinds.Vol = codes "vol"
kind_word kinds.Dco = codes "dco"
kind_word kinds.Snap = codes "snap"

abbrev pub label_word : Label → List ℕ
label_word labels.Version = codes "version"
label_word labels.Device = codes "device"
label_word labels.Slot = codes "slot"
label_word labels.Publen = codes "publen"
label_word labels.Disk = codes "disk"
label_word labels.Off = codes "off"
label_word labels.Len = codes "len"
label_word labels.Plex = codes "plex"
label_word labels.Col = codes "col"
label_word labels.At = codes "at"
label_word labels.Vol = codes "vol"
label_word labels.Kind = codes "kind"
label_word labels.Layout = codes "layout"
label_word labels.Ncol = codes "ncol"
label_word labels.Unit = codes "unit"
label_word labels.State = codes "state"
label_word labels.Map = codes "map"
label_word labels.Region = codes "region"
label_word labels.Rdpol = codes "rdpol"
label_word labels.Prefer = codes "prefer"
label_word labels.Dco = codes "dco"
label_word labels.Maps = codes "maps"
label_word labels.Of = codes "of"
label_word labels.Ofmap = codes "ofmap"
