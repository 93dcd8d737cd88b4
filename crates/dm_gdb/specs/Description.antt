-- The description of the registers that the debugger asks for.
-- Source: GDB manual, "Target Descriptions" ("Target Description Format", "i386 Features") and "General Query Packets"
-- (`qXfer:features:read`).
use Rattle.std.specs.Prelude.{ℕ, ◌+◌, nat_lt, if◌then◌else◌, List, length, take, drop, codes}
use Rattle.dm_gdb.specs.declared.replies.Reply.{Reply}
use Rattle.dm_gdb.specs.declared.replies.Reply.TheVariants as reply

-- the description, in XML: the flags of EFLAGS; the registers of `org.gnu.gdb.i386.core` in their order; and three of
-- this server's own
abbrev pub description : List ℕ
description =
    codes
    "<target version='1.0'><architecture>i8086</architecture><osabi>none</osabi><feature name='org.gnu.gdb.i386.core'><flags id='flags' size='4'><field name='CF' start='0' end='0'/><field name='PF' start='2' end='2'/><field name='AF' start='4' end='4'/><field name='ZF' start='6' end='6'/><field name='SF' start='7' end='7'/><field name='TF' start='8' end='8'/><field name='IF' start='9' end='9'/><field name='DF' start='10' end='10'/><field name='OF' start='11' end='11'/></flags><reg name='eax' bitsize='32' type='int32'/><reg name='ecx' bitsize='32' type='int32'/><reg name='edx' bitsize='32' type='int32'/><reg name='ebx' bitsize='32' type='int32'/><reg name='esp' bitsize='32' type='data_ptr'/><reg name='ebp' bitsize='32' type='int32'/><reg name='esi' bitsize='32' type='int32'/><reg name='edi' bitsize='32' type='int32'/><reg name='eip' bitsize='32' type='code_ptr'/><reg name='eflags' bitsize='32' type='flags'/><reg name='cs' bitsize='32' type='int32'/><reg name='ss' bitsize='32' type='int32'/><reg name='ds' bitsize='32' type='int32'/><reg name='es' bitsize='32' type='int32'/><reg name='fs' bitsize='32' type='int32'/><reg name='gs' bitsize='32' type='int32'/><reg name='st0' bitsize='80' type='i387_ext'/><reg name='st1' bitsize='80' type='i387_ext'/><reg name='st2' bitsize='80' type='i387_ext'/><reg name='st3' bitsize='80' type='i387_ext'/><reg name='st4' bitsize='80' type='i387_ext'/><reg name='st5' bitsize='80' type='i387_ext'/><reg name='st6' bitsize='80' type='i387_ext'/><reg name='st7' bitsize='80' type='i387_ext'/><reg name='fctrl' bitsize='32' type='int'/><reg name='fstat' bitsize='32' type='int'/><reg name='ftag' bitsize='32' type='int'/><reg name='fiseg' bitsize='32' type='int'/><reg name='fioff' bitsize='32' type='int'/><reg name='foseg' bitsize='32' type='int'/><reg name='fooff' bitsize='32' type='int'/><reg name='fop' bitsize='32' type='int'/></feature><feature name='mezguld'><reg name='ip' bitsize='16' type='uint16'/><reg name='sp' bitsize='16' type='uint16'/><reg name='steps' bitsize='64' type='uint64'/></feature></target>"

-- the part of the description that is asked for, by an offset and a count of bytes; fewer at its end, which the reply
-- tells
abbrev pub features_reply : ℕ → ℕ → Reply
features_reply offset count =
    if nat_lt (offset + count) (length description) then reply.Part (take count (drop offset description))
    else reply.Rest (take count (drop offset description))
