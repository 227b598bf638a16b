-- The table with the entry.
use Rattle.std.proofs.Common.{◌/◌, length}
use Rattle.nj_claims.proofs.Mapping.{two_each}
use Rattle.nj_claims.proofs.Inserting.{entry_table, entry_owners, none_stands}
use Rattle.nj_claims.proofs.Entries.{put_entries, one_more}
use Rattle.nj_claims.proofs.placing.insert.Goals as goal

pub free_slot-slot-requires-clause-key : goal.free_slot-slot-requires-clause-key
free_slot-slot-requires-clause-key c =
    (c.requires.key, none_stands c.args.words.now c.args.key c.requires.table c.requires.key c.requires.absent)

pub returns-clause-table : goal.returns-clause-table
returns-clause-table c = entry_table c.args.words.now c.args.key c.args.owner c.free_slot-slot.result c.requires.table
    c.requires.key c.free_slot-slot.ensures

pub returns-clause-entries : goal.returns-clause-entries
returns-clause-entries c = let free = c.free_slot-slot.ensures in
    put_entries (length c.args.words.now / 2) c.args.words.now c.args.key c.args.owner c.free_slot-slot.result
    (two_each c.args.words.now c.requires.table) free.inside c.requires.key free.empty

pub returns-clause-owners : goal.returns-clause-owners
returns-clause-owners c = entry_owners c.args.words.now c.args.key c.args.owner c.free_slot-slot.result c.requires.table
    c.requires.key c.requires.absent c.free_slot-slot.ensures

pub returns-clause-count : goal.returns-clause-count
returns-clause-count c = let free = c.free_slot-slot.ensures in
    one_more (length c.args.words.now / 2) c.args.words.now c.args.key c.args.owner c.free_slot-slot.result
    (two_each c.args.words.now c.requires.table) free.inside c.requires.key free.empty
