-- Reads of files, and the faults that tell of them.
use Rattle.std.proofs.Common.{◌≡◌, ◌∙◌, ◌⊎◌, inl, inr, ℕ, Bool, List, Option, Some, None, Result, Ok, Err, IfErr, IsSomeAnd, sym, subst, refl}
use Rattle.std.specs.Prelude.{codes}
use Rattle.dm_asm.specs.declared.refusal.AssemblyRefusal.{AssemblyRefusal}
use Rattle.dm_asm.specs.declared.refusal.AssemblyRefusal.TheVariants as refusal
use Rattle.dm_proc.specs.declared.programs.AddError.{AddError}
use Rattle.dm_proc.specs.declared.programs.AddError.TheVariants as add
use Rattle.dm_machine.specs.declared.machine.NewError.{NewError}
use Rattle.dm_machine.specs.declared.machine.NewError.TheVariants as new
use Rattle.dm_machine.specs.declared.loading.LoadError.{LoadError}
use Rattle.dm_machine.specs.declared.loading.LoadError.TheVariants as load
use Rattle.dm_debug.specs.Debugged.{Debugged}
use Rattle.dm_cli.specs.declared.fault.Fault.{Fault}
use Rattle.dm_cli.specs.declared.fault.Fault.TheVariants as fault
use Rattle.dm_cli.specs.Faults.{IsUnread, IsUnwritten, IsReadFault, IsWriteFault, refusal_fault}
use Rattle.dm_cli.specs.Names.{IsFileName, last_part}
use Rattle.dm_cli.specs.Stores.{AddsFile, IsFaultOf, IsInputFault, IsRead, bytes_if_any}
use Rattle.dm_cli.specs.Debugging.{Converses, ended, quits, answers, too_long, unread, no_memory, cut_off, unwritten, not_handed_on}
use Rattle.dm_cli.specs.Reads.{IsKept, TellsOfNoFile, TellsOfAFile, ReadsFiles, fault_if, all_read, one_unread}
use Rattle.dm_cli.specs.inner.Faults.{add_fault, new_fault, load_fault}
use Rattle.dm_cli.specs.inner.Debugging.{ConversesWith, through_buffer, without_buffer}
use Rattle.dm_cli.specs.inner.Names.{IsNameFault}

-- all files were read
pub read_ok : (before after : ℕ) → ReadsFiles before after None → after ≡ before
read_ok b a (all_read same tells) = same
read_ok b a (one_unread failed tells) = absurd tells

-- what files hold, and saves, stay through two reads
pub kept_then : (k l m : List ℕ → Option (List ℕ)) (o p q : List ℕ → List ℕ → Option Bool) (s t u : Option (List (
    List ℕ × List ℕ))) (f g h a b c : ℕ) → IsKept k l o p s t f g a b → IsKept l m p q t u g h b c →
    IsKept k m o q s u f h a c
kept_then k l m o p q s t u f g h a b c x y = record {
  files = y.files ∙ x.files;
  paths = y.paths ∙ x.paths;
  saves = y.saves ∙ x.saves;
  count = y.count ∙ x.count;
  found_same = y.found_same ∙ x.found_same;
}

pub kept_all : (k : List ℕ → Option (List ℕ)) (o : List ℕ → List ℕ → Option Bool) (s : Option (List (List ℕ ×
    List ℕ))) (f a : ℕ) → IsKept k k o o s s f f a a
kept_all k o s f a = record { files = refl; paths = refl; saves = refl; count = refl; found_same = refl }

-- a read that failed
pub tells_of_file : (f : Fault) (name : List ℕ) → IsUnread name f ⊎ (f ≡ fault.OutOfMemory) → TellsOfAFile (Some f)
tells_of_file fault.NotFound n (inl h) = absurd h
tells_of_file fault.NotFound n (inr e) = absurd cc
tells_of_file fault.BadFormat n (inl h) = absurd h
tells_of_file fault.BadFormat n (inr e) = absurd cc
tells_of_file fault.Short n (inl h) = absurd h
tells_of_file fault.Short n (inr e) = absurd cc
tells_of_file fault.TooLarge n (inl h) = absurd h
tells_of_file fault.TooLarge n (inr e) = absurd cc
tells_of_file fault.TailTooLong n (inl h) = absurd h
tells_of_file fault.TailTooLong n (inr e) = absurd cc
tells_of_file fault.NameTooLong n (inl h) = absurd h
tells_of_file fault.NameTooLong n (inr e) = absurd cc
tells_of_file fault.NameTwice n (inl h) = absurd h
tells_of_file fault.NameTwice n (inr e) = absurd cc
tells_of_file fault.InputTooLong n (inl h) = absurd h
tells_of_file fault.InputTooLong n (inr e) = absurd cc
tells_of_file fault.TooLong n (inl h) = absurd h
tells_of_file fault.TooLong n (inr e) = absurd cc
tells_of_file fault.OutOfMemory n h = tt
tells_of_file (fault.CannotRead x) n h = tt
tells_of_file (fault.CannotWrite x) n (inl h) = absurd h
tells_of_file (fault.CannotWrite x) n (inr e) = absurd cc
tells_of_file (fault.Syntax x) n (inl h) = absurd h
tells_of_file (fault.Syntax x) n (inr e) = absurd cc
tells_of_file (fault.Unknown x) n (inl h) = absurd h
tells_of_file (fault.Unknown x) n (inr e) = absurd cc
tells_of_file (fault.Range x) n (inl h) = absurd h
tells_of_file (fault.Range x) n (inr e) = absurd cc
tells_of_file (fault.Twice x) n (inl h) = absurd h
tells_of_file (fault.Twice x) n (inr e) = absurd cc

-- faults of other kinds
pub name_tells : (f : Fault) (path : List ℕ) → IsNameFault path f → TellsOfNoFile (Some f)
name_tells fault.NotFound p h = tt
name_tells fault.BadFormat p h = tt
name_tells fault.Short p h = tt
name_tells fault.TooLarge p h = tt
name_tells fault.TailTooLong p h = tt
name_tells fault.NameTooLong p h = tt
name_tells fault.NameTwice p h = tt
name_tells fault.InputTooLong p h = tt
name_tells fault.TooLong p h = tt
name_tells fault.OutOfMemory p h = tt
name_tells (fault.CannotRead x) p (inl h) = inr (subst (λ q. ¬ IsFileName (last_part q)) (sym h.0) h.1)
name_tells (fault.CannotRead x) p (inr h) = absurd (let e = h.0 in cc)
name_tells (fault.CannotWrite x) p h = tt
name_tells (fault.Syntax x) p h = tt
name_tells (fault.Unknown x) p h = tt
name_tells (fault.Range x) p h = tt
name_tells (fault.Twice x) p h = tt

pub input_tells : (f : Fault) (known : Option (List ℕ)) → IsInputFault known (codes "standard input") f →
    TellsOfNoFile (Some f)
input_tells fault.NotFound k h = tt
input_tells fault.BadFormat k h = tt
input_tells fault.Short k h = tt
input_tells fault.TooLarge k h = tt
input_tells fault.TailTooLong k h = tt
input_tells fault.NameTooLong k h = tt
input_tells fault.NameTwice k h = tt
input_tells fault.InputTooLong k h = tt
input_tells fault.TooLong k h = tt
input_tells fault.OutOfMemory k h = tt
input_tells (fault.CannotRead x) k (inl h) = inl h
input_tells (fault.CannotRead x) k (inr (inl e)) = absurd cc
input_tells (fault.CannotRead x) k (inr (inr h)) = absurd (let e = h.0 in cc)
input_tells (fault.CannotWrite x) k h = tt
input_tells (fault.Syntax x) k h = tt
input_tells (fault.Unknown x) k h = tt
input_tells (fault.Range x) k h = tt
input_tells (fault.Twice x) k h = tt

pub save_tells : (f : Fault) (name : List ℕ) → IsUnwritten name f ⊎ (f ≡ fault.OutOfMemory) → TellsOfNoFile (Some f)
save_tells fault.NotFound n h = tt
save_tells fault.BadFormat n h = tt
save_tells fault.Short n h = tt
save_tells fault.TooLarge n h = tt
save_tells fault.TailTooLong n h = tt
save_tells fault.NameTooLong n h = tt
save_tells fault.NameTwice n h = tt
save_tells fault.InputTooLong n h = tt
save_tells fault.TooLong n h = tt
save_tells fault.OutOfMemory n h = tt
save_tells (fault.CannotRead x) n (inl h) = absurd h
save_tells (fault.CannotRead x) n (inr e) = absurd cc
save_tells (fault.CannotWrite x) n h = tt
save_tells (fault.Syntax x) n h = tt
save_tells (fault.Unknown x) n h = tt
save_tells (fault.Range x) n h = tt
save_tells (fault.Twice x) n h = tt

pub line_tells : (f : Fault) → IsReadFault f → TellsOfNoFile (Some f)
line_tells fault.NotFound h = tt
line_tells fault.BadFormat h = tt
line_tells fault.Short h = tt
line_tells fault.TooLarge h = tt
line_tells fault.TailTooLong h = tt
line_tells fault.NameTooLong h = tt
line_tells fault.NameTwice h = tt
line_tells fault.InputTooLong h = tt
line_tells fault.TooLong h = tt
line_tells fault.OutOfMemory h = tt
line_tells (fault.CannotRead x) h = inl h
line_tells (fault.CannotWrite x) h = tt
line_tells (fault.Syntax x) h = tt
line_tells (fault.Unknown x) h = tt
line_tells (fault.Range x) h = tt
line_tells (fault.Twice x) h = tt

pub answer_tells : (f : Fault) → IsWriteFault f → TellsOfNoFile (Some f)
answer_tells fault.NotFound h = tt
answer_tells fault.BadFormat h = tt
answer_tells fault.Short h = tt
answer_tells fault.TooLarge h = tt
answer_tells fault.TailTooLong h = tt
answer_tells fault.NameTooLong h = tt
answer_tells fault.NameTwice h = tt
answer_tells fault.InputTooLong h = tt
answer_tells fault.TooLong h = tt
answer_tells fault.OutOfMemory h = tt
answer_tells (fault.CannotRead x) h = absurd h
answer_tells (fault.CannotWrite x) h = tt
answer_tells (fault.Syntax x) h = tt
answer_tells (fault.Unknown x) h = tt
answer_tells (fault.Range x) h = tt
answer_tells (fault.Twice x) h = tt

pub text_tells : (r : AssemblyRefusal) → TellsOfNoFile (Some (refusal_fault r))
text_tells (refusal.Syntax n) = tt
text_tells (refusal.Unknown n) = tt
text_tells (refusal.Range n) = tt
text_tells (refusal.Twice n) = tt
text_tells refusal.TooLong = tt
text_tells refusal.Memory = tt

pub store_tells : (r : AddError) → TellsOfNoFile (Some (add_fault r))
store_tells add.Twice = tt
store_tells add.Memory = tt

pub machine_tells : (r : NewError) → TellsOfNoFile (Some (new_fault r))
machine_tells new.TooLarge = tt
machine_tells new.Memory = tt

pub load_tells : (r : LoadError) → TellsOfNoFile (Some (load_fault r))
load_tells load.NotFound = tt
load_tells load.BadFormat = tt
load_tells load.Short = tt

-- the fault that ends a session tells of no file
pub converse_tells : (n : ℕ) (s : Debugged) (text told : List ℕ) (t : Debugged) (end : Option Fault) (whole : Bool) →
    Converses n s text told t end whole → TellsOfNoFile end
converse_tells _ _ _ _ _ _ _ (ended n s) = tt
converse_tells _ _ _ _ _ _ _ (quits n s text fits quit) = tt
converse_tells _ _ _ _ _ _ _ (answers n s t u text told more end whole h fits other tells rest) =
    converse_tells _ _ _ _ _ _ _ rest
converse_tells _ _ _ _ _ _ _ (too_long n s text long) = tt
converse_tells _ _ _ _ _ _ _ (unread n s text f is) = line_tells f is
converse_tells _ _ _ _ _ _ _ (no_memory n s text) = tt
converse_tells _ _ _ _ _ _ _ (cut_off n s t text h fits other cut) = tt
converse_tells _ _ _ _ _ _ _ (unwritten n s t text told k f h fits other tells le is) = answer_tells f is
converse_tells _ _ _ _ _ _ _ (not_handed_on n s t text told f h fits other tells is) = answer_tells f is

pub session_tells : (typed : Option (List ℕ)) (s t : Debugged) (before after : Option (List ℕ)) (opened failures : ℕ)
    (end : Option Fault) → ConversesWith typed s t before after opened failures end → TellsOfNoFile end
session_tells typed s t b a o f _ (through_buffer end c) = converse_tells _ _ _ _ _ _ _ c.converses
session_tells typed s t b a o f _ (without_buffer kept same) = tt

-- a read after others that did not fail
pub reads_after : (before between after : ℕ) (end : Option Fault) → between ≡ before → ReadsFiles between after end →
    ReadsFiles before after end
reads_after b m a end e h = subst (λ n. ReadsFiles n a end) e h

pub if_tells : {A : Type 0} (r : Result A Fault) → IfErr r (λ e. TellsOfNoFile (Some e)) → TellsOfNoFile (fault_if r)
if_tells (Ok x) h = tt
if_tells (Err e) h = h

-- files hold what they held
pub adds_kept : (k l : List ℕ → Option (List ℕ)) (s : List (List ℕ × List ℕ)) (path : List ℕ) (t : List (List ℕ ×
    List ℕ)) → l ≡ k → AddsFile (l path) s path t → AddsFile (k path) s path t
adds_kept k l s path t e h = subst (λ (m : List ℕ → Option (List ℕ)). AddsFile (m path) s path t) e h

pub fault_kept : (k l : List ℕ → Option (List ℕ)) (s : List (List ℕ × List ℕ)) (path : List ℕ) (f : Fault) → l ≡ k →
    IsFaultOf (l path) s path f → IsFaultOf (k path) s path f
fault_kept k l s path f e h = subst (λ (m : List ℕ → Option (List ℕ)). IsFaultOf (m path) s path f) e h

pub read_kept : (k l : List ℕ → Option (List ℕ)) (o : Option (List ℕ)) (bytes : List ℕ) → l ≡ k →
    IsRead (bytes_if_any l o) bytes → IsRead (bytes_if_any k o) bytes
read_kept k l o bytes e h = subst (λ (m : List ℕ → Option (List ℕ)). IsRead (bytes_if_any m o) bytes) e h

pub input_kept : (k l : List ℕ → Option (List ℕ)) (o : Option (List ℕ)) (f : Fault) → l ≡ k →
    IsSomeAnd o (λ name. IsInputFault (bytes_if_any l (Some name)) name f) →
    IsSomeAnd o (λ name. IsInputFault (bytes_if_any k (Some name)) name f)
input_kept k l o f e h = subst (λ (m : List ℕ → Option (List ℕ)). IsSomeAnd o
    (λ name. IsInputFault (bytes_if_any m (Some name)) name f)) e h
