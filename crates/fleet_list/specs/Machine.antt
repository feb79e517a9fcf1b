-- A reader byte by byte, over any standing S and value V.

-- what a byte does: nothing goes on so; the reader stands elsewhere; the value is read
pub data Turn (S V : Type 0) : Type 0 where
  refuse : Turn S V
  next : S → Turn S V
  done : V → Turn S V
