-- What a line asks, and what it does, by what the parser and the caller of the engine found.
use Rattle.std.proofs.Common.{◌≡◌, ℕ, List, length, None, Ok, Err, Option, sym, ap}
use Rattle.registers.specs.Cells.{Cell}
use Rattle.engine.specs.declared.worker.Worker.{Worker}
use Rattle.engine.specs.Rows.{states}
use Rattle.script.specs.Shapes.{Asked, line_of}
use Rattle.script.specs.Lines.{call_of, then, head_if, head_line}
use Rattle.session.specs.Sessions.{reply_whole, asked_whole, line_whole}

pub no_head : (bytes : List ℕ) (e : ℕ) → line_of bytes ≡ Err e → head_line bytes ≡ None
no_head bytes e p = ap head_if p

module _ {V : Type 0} (of_text : List ℕ → Option V) (ws : List (Worker V)) (cells : List (Cell V)) where
  pub line_asks : (bytes : List ℕ) (a : Asked) → line_of bytes ≡ Ok a → asked_whole of_text a (states ws) cells ≡ line_whole of_text bytes (states ws) cells
  line_asks bytes a p = ap (λ l. reply_whole (then l (call_of of_text (length (states ws)))) (states ws) cells) (sym p)

  pub line_refused : (bytes : List ℕ) (e : ℕ) → line_of bytes ≡ Err e → reply_whole (Err e) (states ws) cells ≡ line_whole of_text bytes (states ws) cells
  line_refused bytes e p = ap (λ l. reply_whole (then l (call_of of_text (length (states ws)))) (states ws) cells) (sym p)
