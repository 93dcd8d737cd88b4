-- The keys of the templates of a mnemonic, by the table itself, for the search of the templates (Search.antt) alone. A
-- key is a first byte and a reg field; a template outside the groups stands under the reg field 0 alone.
use Rattle.std.specs.Prelude.{ℕ, ◌+◌, Bool, true, false, List, [], ◌∷◌, ◌++◌, Option, Some, None, slice_index_or, nat_lt}
use denote.Enum.Bare.{sameb}
use Rattle.dm_ins.specs.contracts.action.Mnemonic.{the_type}
use Rattle.dm_ins.specs.declared.action.Mnemonic.{Mnemonic}
use Rattle.dm_ins.specs.declared.keys.Key.{Key}
use Rattle.dm_ins.specs.declared.table.Template.{Template}
use Rattle.dm_ins.specs.declared.table.OpcodeEntry.{OpcodeEntry}
use Rattle.dm_ins.specs.declared.table.OpcodeEntry.TheVariants.{Unlisted, Plain, Group, Second}
use Rattle.dm_ins.specs.Table.{entries, groups}

-- the key of a first byte and a reg field
abbrev pub key : ℕ → ℕ → Key
key b g = record { opcode = b; register = g }

-- the key's reg field has three bits: it is below 8
abbrev pub has_field : Key → Bool
has_field k = nat_lt k.register 8

-- the template has the mnemonic
abbrev pub is_of : Mnemonic → Template → Bool
is_of m r = sameb the_type r.mnemonic m

-- the list with the key put before it if the test is true, else as it is
abbrev pub onto : Bool → Key → List Key → List Key
onto true k ks = k ∷ ks
onto false k ks = ks

-- the keys of the templates of a mnemonic in a group under the first byte b; the first template given has the reg field
-- g
abbrev pub member_keys : Mnemonic → ℕ → ℕ → List (Option Template) → List Key
member_keys m b g [] = []
member_keys m b g (None ∷ rs) = member_keys m b (g + 1) rs
member_keys m b g (Some r ∷ rs) = onto (is_of m r) (key b g) (member_keys m b (g + 1) rs)

-- the keys of the templates of a mnemonic in the entry of the first byte b
abbrev pub entry_keys : Mnemonic → ℕ → OpcodeEntry → List Key
entry_keys m b Unlisted = []
entry_keys m b (Plain r) = onto (is_of m r) (key b 0) []
entry_keys m b (Group n) = member_keys m b 0 (slice_index_or groups n [])
entry_keys m b (Second c r) = onto (is_of m r) (key b 0) []

-- the keys of the templates of a mnemonic in the entries of the first byte b and those after it
abbrev pub keys_from : Mnemonic → ℕ → List OpcodeEntry → List Key
keys_from m b [] = []
keys_from m b (e ∷ es) = entry_keys m b e ++ keys_from m (b + 1) es

-- the keys of all templates of a mnemonic, in the order of first byte and reg field
unfoldable pub keyed : Mnemonic → List Key
keyed m = keys_from m 0 entries

-- the key at index n of a list, 00h with reg field 0 past its end
abbrev pub key_at : List Key → ℕ → Key
key_at ks n = slice_index_or ks n (key 0 0)
