-- String instructions in two memories that show the same elements where they are read.
use Rattle.std.proofs.Common.{ℕ, ◌==◌, Bool, true, false, not, Option, Some, None, refl, ap, ap₂}
use Rattle.std.specs.Prelude.{All, if◌then◌else◌}
use Rattle.dm_space.specs.Memory.{Memory}
use Rattle.dm_alu.specs.declared.width.Width.{Width}
use Rattle.dm_ins.specs.declared.operand.SegmentRegister.{SegmentRegister}
use Rattle.dm_ins.specs.declared.prefix.Repeat.{Repeat}
use Rattle.dm_cpu.specs.declared.cpu.Cpu.{Cpu}
use Rattle.dm_cpu.specs.Guest.{Guest, guest}
use Rattle.dm_cpu.specs.Operands.{data_segment}
use Rattle.dm_cpu.specs.Values.{accumulator, with_accumulator}
use Rattle.dm_exec.specs.declared.operation.StringOperation.{StringOperation}
use Rattle.dm_exec.specs.declared.operation.StringOperation.TheVariants as string
use Rattle.dm_exec.specs.Strings.{source, destination, source_advanced, destination_advanced, with_comparison, once, counted, string_effect}
use Rattle.dm_touches.specs.declared.elements.Elements.{Elements}
use Rattle.dm_touches.specs.Elements.{bytes_of, nothing, one_element, two_elements}
use Rattle.dm_touches.specs.Touches.{does_work, reads_of_string, writes_of_string}
use Rattle.dm_touches.specs.Touches as touched
use Rattle.dm_laws.proofs.footprints.Values.{Same, in_first, in_second, same_element}
use Rattle.dm_laws.proofs.footprints.Stores.{Done, done_registers, done_with, done_one, done_written}

module _ (w : Width) (c : Cpu) (m n : Memory) (override : Option SegmentRegister) where
  done_once : (operation : StringOperation) → All (Same m n) (bytes_of (reads_of_string w c override operation)) →
      Done m n (once w (guest c m) override operation) (once w (guest c n) override operation)
      (bytes_of (writes_of_string w c operation))
  unfolding once source destination
  done_once string.Move r =
      let e = same_element w m n (data_segment c override c.ds) c.si (in_first (Same m n)
      (one_element (touched.source w c override)) r) in
      done_one m n _ _ (touched.destination w c) (done_with m n _ _ _ _ _ refl (done_written w c m n c.es c.di _ _ e))
  done_once string.Compare r =
      let e = two_elements (touched.source w c override) (touched.destination w c) in
      let x = same_element w m n (data_segment c override c.ds) c.si (in_first (Same m n) e r) in
      let y = same_element w m n c.es c.di (in_second (Same m n) e r) in
      done_registers m n _ _ (ap₂ (λ (a b : ℕ). destination_advanced w (source_advanced w (with_comparison w c a b))) x y)
  done_once string.Store r = done_one m n _ _ (touched.destination w c) (done_with m n _ _ _ _ _ refl
      (done_written w c m n c.es c.di _ _ refl))
  done_once string.Load r =
      let e = same_element w m n (data_segment c override c.ds) c.si (in_first (Same m n)
      (one_element (touched.source w c override)) r) in
      done_registers m n _ _ (ap (λ (a : ℕ). source_advanced w (with_accumulator w c a)) e)
  done_once string.Scan r =
      let e = same_element w m n c.es c.di (in_first (Same m n) (one_element (touched.destination w c)) r) in
      done_registers m n _ _ (ap (λ (b : ℕ). destination_advanced w (with_comparison w c (accumulator w c) b)) e)

  done_unless : (b : Bool) (x y : Guest) (reads writes : Elements) → (All (Same m n) (bytes_of reads) →
      Done m n x y (bytes_of writes)) → All (Same m n) (bytes_of (if not b then reads else nothing)) →
      Done m n (if b then guest c m else x) (if b then guest c n else y) (bytes_of (if not b then writes else nothing))
  done_unless true x y reads writes f r = done_registers m n c c refl
  done_unless false x y reads writes f r = f r

  pub done_string : (o : Option Repeat) (operation : StringOperation) (start : ℕ) →
      All (Same m n) (bytes_of (if does_work c o then reads_of_string w c override operation else nothing)) →
      Done m n (string_effect w (guest c m) override o operation start) (string_effect w
      (guest c n) override o operation start) (bytes_of (if does_work c o then writes_of_string w c operation else
      nothing))
  unfolding string_effect
  done_string None operation start r = done_once operation r
  done_string (Some repeat) operation start r =
      done_unless (c.cx == 0) _ _ (reads_of_string w c override operation) (writes_of_string w c operation) (λ s.
      (let d = done_once operation s in
      done_with m n _ _ _ _ _ (ap (λ (x : Cpu). counted repeat operation start x) d.registers) d)) r
