-- Of the claim.
-- The program of bulk work: two sweeps over a square array whose rows lie in blocks, and whose columns are dealt out after the first.
use Rattle.std.specs.Prelude.{ℕ, List, ◌++◌, codes, decimal}

-- the lines before the size
abbrev pub bulk_head : List ℕ
bulk_head = codes "PROGRAM BULK\nINTEGER, PARAMETER :: N = "

-- those after it
abbrev pub bulk_tail : List ℕ
bulk_tail =
    codes "\nINTEGER :: A(N,N), B(N,N), I, J, K, S, T\n!HPF$ DYNAMIC A\n!HPF$ DISTRIBUTE A(BLOCK,*)\n!HPF$ ALIGN B(:,:) WITH A(:,:)\nFORALL (I=1:N, J=1:N) A(I,J) = I*I + J*J\nB = A\n"
    ++ codes "DO K = 1, 2\nS = 0\n!HPF$ INDEPENDENT, NEW(I,T), REDUCTION(S)\nDO J = 2, N-1\n!HPF$ INDEPENDENT, NEW(T)\nDO I = 2, N-1\n"
    ++ codes "T = (A(I-1,J) + A(I+1,J) + A(I,J-1) + A(I,J+1)) / 4\nS = S + ABS(T - A(I,J))\nB(I,J) = T\nEND DO\nEND DO\nA = B\nPRINT *, K, S\n"
    ++ codes "IF (K == 1) THEN\n!HPF$ REDISTRIBUTE A(*,CYCLIC)\nEND IF\nEND DO\nPRINT *, 'BULK', N, SUM(A), MAXVAL(A)\nEND PROGRAM BULK\n"

-- the text for a size
abbrev pub bulk_text : ℕ → List ℕ
bulk_text size = bulk_head ++ decimal size ++ bulk_tail
