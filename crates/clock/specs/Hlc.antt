-- The hybrid logical clock of Kulkarni, Demirbas, Madappa, Avva and Leone, Logical Physical Clocks (2014), Figure 5, with the paper's
-- names: l.j and c.j are the clock of node j, l' its value before the event, l.m and c.m the stamp of the message, pt.j the physical clock.
-- Here j is the clock before the event, so that j.l is l'.j, and l is the new l.j.
use Rattle.std.specs.Prelude.{ℕ, ◌+◌, ◌&&◌, ltb, eqb}
use Rattle.words.specs.Names.{Time}
use Rattle.words.specs.Choice.{pick}

-- a clock, or a stamp: (l, c)
pub record Hlc : Type 0 where
  pub l : Time
  pub c : ℕ

-- the paper's max of two
unfoldable pub greater : ℕ → ℕ → ℕ
greater a b = pick (ltb a b) b a

-- paper: "Initially l.j := 0; c.j := 0"
abbrev pub initially : Hlc
initially = record { l = 0; c = 0 }

-- paper: "Send or local event"; "l'.j := l.j; l.j := max(l'.j, pt.j)"
unfoldable pub send_l : (j : Hlc) → Time → Time
send_l j pt = greater j.l pt

-- paper: "If (l.j = l'.j) then c.j := c.j + 1 Else c.j := 0"
unfoldable pub send_c : (j : Hlc) → Time → ℕ
send_c j l = pick (eqb l j.l) (j.c + 1) 0

-- the clock after the event, and the event's stamp
unfoldable pub send_event : Hlc → Time → Hlc
send_event j pt =
    record {
      l = greater j.l pt;
      c = pick (eqb (greater j.l pt) j.l) (j.c + 1) 0;
    }

-- paper: "Receive event of message m"; "l'.j := l.j; l.j := max(l'.j, l.m, pt.j)"
unfoldable pub receive_l : (j m : Hlc) → Time → Time
receive_l j m pt = greater (greater j.l m.l) pt

-- paper: "If (l.j = l'.j = l.m) then c.j := max(c.j, c.m) + 1 Elseif (l.j = l'.j) then c.j := c.j + 1
-- Elseif (l.j = l.m) then c.j := c.m + 1 Else c.j := 0"
unfoldable pub receive_c : (j m : Hlc) → Time → ℕ
receive_c j m l =
    pick (eqb l j.l && eqb l m.l) (greater j.c m.c + 1)
    (pick (eqb l j.l) (j.c + 1)
    (pick (eqb l m.l) (m.c + 1) 0))

-- the clock after the event, and the event's stamp
unfoldable pub receive_event : (j m : Hlc) → Time → Hlc
receive_event j m pt = record { l = receive_l j m pt; c = receive_c j m (receive_l j m pt) }
