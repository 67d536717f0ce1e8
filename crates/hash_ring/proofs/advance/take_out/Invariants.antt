use Rattle.std.proofs.Common.{◌≡◌, ◌≤◌, vec_len, vec_capacity}
use Rattle.std.specs.List.{filter}
use Rattle.std.specs.Map.{keys_of}
use Rattle.hash_ring.specs.Ring.{is_active_in}
use Rattle.hash_ring.specs.Search.{HasWholeSilos}
use Rattle.hash_ring.proofs.WholeSilos.{AreLeft}
use Rattle.hash_ring.proofs.advance.take_out.Given as goal

abbrev pub invariant-loop-silo : goal.invariant-loop-silo
invariant-loop-silo l = record {
  whole : HasWholeSilos l.places l.points.items;
  same : filter (λ p. is_active_in l.view p.silo) l.points.items ≡ filter (λ p. is_active_in l.view p.silo) l.fn.points.items;
  left : AreLeft (is_active_in l.view) l.points.items (keys_of l.silo-iterator);
  len : vec_len l.points ≤ vec_len l.fn.points;
  room : vec_capacity l.points ≡ vec_capacity l.fn.points;
}
