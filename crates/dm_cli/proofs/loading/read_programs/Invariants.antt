use Rattle.std.proofs.Common.{◌≡◌, map, take}
use Rattle.dm_cli.specs.Stores.{Stores}
use Rattle.dm_cli.specs.Reads.{IsKept}
use Rattle.dm_cli.proofs.loading.read_programs.Given as goal

-- the files so far are in the store, in their order, and each was read
abbrev pub invariant-loop-path : goal.invariant-loop-path
invariant-loop-path g l = record {
  stores : Stores (g.F.Storage.contents l.initial.storage) (map (λ path. path.now) (take l.path-index l.paths))
      l.programs;
  all : g.F.Storage.unread l.storage ≡ g.F.Storage.unread l.initial.storage;
  kept : IsKept (g.F.Storage.contents l.initial.storage) (g.F.Storage.contents l.storage)
      (g.F.Storage.same l.initial.storage) (g.F.Storage.same l.storage) (g.F.Storage.saved l.initial.storage)
      (g.F.Storage.saved l.storage) (g.F.Storage.failures l.initial.storage) (g.F.Storage.failures l.storage)
      (g.F.Storage.found_same l.initial.storage) (g.F.Storage.found_same l.storage);
}
