mod LineMoves
