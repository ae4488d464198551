-- What other readers refuse, as refusals of a metadata file.
use Rattle.std.specs.Prelude.{Result, Ok, Err}
use Rattle.hq_load_filter.specs.declared.refusal.FilterRefusal.{FilterRefusal}
use Rattle.hq_load_filter.specs.declared.refusal.FilterRefusal.TheVariants as filter
use Rattle.hq_load_meta_names.specs.declared.refusal.NameRefusal.{NameRefusal}
use Rattle.hq_load_meta_names.specs.declared.refusal.NameRefusal.TheVariants as name
use Rattle.hq_load_meta_tables.specs.declared.refusal.MetaRefusal.{MetaRefusal}
use Rattle.hq_load_meta_tables.specs.declared.refusal.MetaRefusal.TheVariants.{Shape, UnknownTable, UnknownColumn, BadOperand, RepeatedName, Memory}

-- a filter is refused under the same names
abbrev pub filter_refusal : FilterRefusal → MetaRefusal
filter_refusal (filter.Shape path) = Shape path
filter_refusal (filter.UnknownTable path) = UnknownTable path
filter_refusal (filter.UnknownColumn path) = UnknownColumn path
filter_refusal (filter.BadOperand path) = BadOperand path
filter_refusal filter.Memory = Memory

-- what the reader of filters reads, refused under the same names
abbrev pub refused : {A : Type 0} → Result A FilterRefusal → Result A MetaRefusal
refused (Ok x) = Ok x
refused (Err e) = Err (filter_refusal e)

-- names that stand twice are refused
abbrev pub name_refusal : NameRefusal → MetaRefusal
name_refusal (name.Repeated path) = RepeatedName path
name_refusal name.Memory = Memory
